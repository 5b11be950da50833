-- A name is ASCII, so it is text.
use Rattle.std.proofs.Common.{rules}
use Rattle.std.proofs.lemmas.Str.{IsUtf8-from_ascii}
use Rattle.test_stored.proofs.open.Goals as goal

pub unwrap-requires : goal.unwrap-requires
unwrap-requires g c = search (rules, IsUtf8-from_ascii)
