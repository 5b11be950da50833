-- Status bytes. Manual, section 4.5.1: status flag 1, the encoding by order; section 4.5.2: status flag 2.
use Rattle.std.specs.Prelude.{ℕ, ◌+◌, min, cond, ltb}
use Rattle.answers.specs.declared.status.Fault.{Fault}
use Rattle.answers.specs.declared.status.Fault.TheVariants.{ListIndex, AccessMode, Attribute, NoService, KeyNeeded, ReadOnly, NoCashback, BlockNumber, CyclicBlock, PurseRaised, CashbackRaised, SumTooLarge, OutsideLimits, OutsideWord, CashbackExceeds, CyclicTooLong}

-- the place of an error at an index of the list, counted from 0: min(index + 1, 255)
-- RULES 8.1
abbrev pub sf1_of : ℕ → ℕ
sf1_of index = min (index + 1) 255

-- tables 4-11 and 4-12
-- RULES 8.2
abbrev pub sf2_of : Fault → ℕ
sf2_of ListIndex = 0xa3
sf2_of AccessMode = 0xa7
sf2_of Attribute = 0xa4
sf2_of NoService = 0xa6
sf2_of KeyNeeded = 0xa5
sf2_of ReadOnly = 0xa5
sf2_of NoCashback = 0xa5
sf2_of BlockNumber = 0xa8
sf2_of CyclicBlock = 0xa5
sf2_of PurseRaised = 0xa5
sf2_of CashbackRaised = 0xa5
sf2_of SumTooLarge = 0xa5
sf2_of OutsideLimits = 0x03
sf2_of OutsideWord = 0x01
sf2_of CashbackExceeds = 0x02
sf2_of CyclicTooLong = 0xaf

-- which of its causes an A5 has: those of the element check in its order, then those of the rules; 0 for every other fault
-- RULES 2.7
abbrev pub cause_of : Fault → ℕ
cause_of ListIndex = 0
cause_of AccessMode = 0
cause_of Attribute = 0
cause_of NoService = 0
cause_of KeyNeeded = 1
cause_of ReadOnly = 2
cause_of NoCashback = 3
cause_of BlockNumber = 0
cause_of CyclicBlock = 4
cause_of PurseRaised = 5
cause_of CashbackRaised = 6
cause_of SumTooLarge = 7
cause_of OutsideLimits = 0
cause_of OutsideWord = 0
cause_of CashbackExceeds = 0
cause_of CyclicTooLong = 0

-- those of the rules, from 4 on; 0 for every other fault
abbrev pub rule_cause_of : Fault → ℕ
rule_cause_of f = cond (ltb (cause_of f) 4) 0 (cause_of f)
