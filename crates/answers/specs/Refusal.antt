-- The numbers of the refusals.
use Rattle.std.specs.Prelude.{ℕ, cond, ltb}
use Rattle.answers.specs.declared.refusal.Refusal.{Refusal}
use Rattle.answers.specs.declared.refusal.Refusal.TheVariants.{TooManyElements, TooManyCodes, ListLength, ShortStaging, ShortOutput, MalformedRequest, ShortArena, NotBuilt, InvalidAreaRange, InvalidRootAreaRange, NodeCodeOutOfRange, InvalidAreaAttribute, ChildAreaForbidden, UndefinedServiceAttribute, ServiceOutOfRange, AreaOutOfRange, OverlapKindMismatch, TableFull, NoParent, NoRoom, NoSuchBlock, CountsDiffer, NotAService, MalformedImage, ParentNoArea, PacketPastEnd, TooManyNodes, NotAMessage, OutputTooShort}

-- 9, 10, 25 to 27, 29 and 31 to 39 are no refusal's; 40 to 43 are a board's (board_lanes)
-- RULES 2.2
abbrev pub refusal_number : Refusal → ℕ
refusal_number TooManyElements = 1
refusal_number TooManyCodes = 2
refusal_number ListLength = 3
refusal_number ShortStaging = 4
refusal_number ShortOutput = 5
refusal_number MalformedRequest = 6
refusal_number ShortArena = 7
refusal_number NotBuilt = 8
refusal_number InvalidAreaRange = 11
refusal_number InvalidRootAreaRange = 12
refusal_number NodeCodeOutOfRange = 13
refusal_number InvalidAreaAttribute = 14
refusal_number ChildAreaForbidden = 15
refusal_number UndefinedServiceAttribute = 16
refusal_number ServiceOutOfRange = 17
refusal_number AreaOutOfRange = 18
refusal_number OverlapKindMismatch = 19
refusal_number TableFull = 20
refusal_number NoParent = 21
refusal_number NoRoom = 22
refusal_number NoSuchBlock = 23
refusal_number CountsDiffer = 24
refusal_number NotAService = 28
refusal_number MalformedImage = 30
refusal_number ParentNoArea = 44
refusal_number PacketPastEnd = 45
refusal_number TooManyNodes = 46
refusal_number NotAMessage = 47
refusal_number OutputTooShort = 48

-- the numbers from 11 on; 0 for a refusal whose number is below
abbrev pub number_from11 : Refusal → ℕ
number_from11 r = cond (ltb (refusal_number r) 11) 0 (refusal_number r)
