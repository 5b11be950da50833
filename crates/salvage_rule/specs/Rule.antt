-- The two rules that take lines along, on what they know of a line: its depth, and whether its first field is `svc` or `lim`.
use Rattle.std.specs.Prelude.{Bool, false, cond, ◌&&◌, ◌||◌, ltb, Option, Some, None, ℕ}
use Rattle.salvage_rule.specs.declared.Depth.{Depth}
use Rattle.salvage_rule.specs.declared.Depth.TheVariants.{Flat, Area, Service}
use Rattle.salvage_rule.specs.declared.Fate.{Fate}
use Rattle.salvage_rule.specs.declared.Fate.TheVariants.{Kept, Parent, Number}
use Rattle.salvage_rule.specs.declared.Rules.{Rules}

-- whether a depth lies below the area of a stretch; a line without one does not
-- RULES 20.4
abbrev pub deeper : Option ℕ → Depth → Bool
deeper None d = false
deeper (Some over) Flat = false
deeper (Some over) (Area own) = ltb over own
deeper (Some over) (Service own) = ltb over own

-- whether one of the rules takes a line
-- RULES 20.5
abbrev pub takes : Rules → Depth → Bool → Bool
takes r d lim = deeper r.stretch d || (r.orphaned && lim)

-- a line with a depth that is not deeper ends a stretch
-- RULES 20.4
abbrev pub ended_by : Option ℕ → Depth → Option ℕ
ended_by None d = None
ended_by (Some over) Flat = Some over
ended_by (Some over) (Area own) = cond (ltb over own) (Some over) None
ended_by (Some over) (Service own) = cond (ltb over own) (Some over) None

-- and a well-formed `area` that the builder refused begins one
-- RULES 20.4
abbrev pub begun_by : Option ℕ → Depth → Option ℕ
begun_by s Flat = ended_by s Flat
begun_by s (Area own) = Some own
begun_by s (Service own) = ended_by s (Service own)

abbrev pub stretch_after : Fate → Option ℕ → Depth → Option ℕ
stretch_after Kept s d = ended_by s d
stretch_after Parent s d = ended_by s d
stretch_after (Number n) s d = begun_by s d

-- a dropped `svc` orphans the limits up to the next kept line
-- RULES 20.5
abbrev pub orphaned_after : Fate → Bool → Bool → Bool
orphaned_after Kept o svc = false
orphaned_after Parent o svc = o || svc
orphaned_after (Number n) o svc = o || svc

abbrev pub rules_after : Rules → Depth → Bool → Fate → Rules
rules_after r d svc f = record { stretch = stretch_after f r.stretch d; orphaned = orphaned_after f r.orphaned svc }

-- ahead of all lines
abbrev pub no_rules : Rules
no_rules = record { stretch = None; orphaned = false }
