use Rattle.std.specs.Prelude.{List, None, Ok, Option, Result, Some, length, true, ℕ, ◌≡◌}
use Rattle.nap_draw.specs.Names.{Coordinates, Course, Ghosts, displaced_point, multi_of, operand_words}
use Rattle.nap_draw.specs.{declared.fault.DrawFault.DrawFault, declared.work.Work.Work, Geometry.last_or, Rule.RuleResult, Execution.ActsByRule, Execution.clears_nothing}

-- Points that are only counted.

-- there are so many points, and this is the last
pub record Arrives (all : Option (List Coordinates)) (count : ℕ) (end : Coordinates) : Type 0 where
  pub points : List Coordinates
  pub are : all ≡ Some points
  pub many : length points ≡ count
  pub last : last_or None points ≡ Some end

-- a walk moved by the displacement that these bytes carry
pub record Displaces (old new : Course) (bytes : List ℕ) : Type 0 where
  pub inside : new.inside ≡ true → old.inside ≡ true
  pub point : new.inside ≡ true → displaced_point old.point (multi_of (operand_words bytes)) ≡ Some new.point

-- a code acted by the result of its rule
abbrev pub ActsFully : {S : Type 0} → (g : Ghosts S) → Result RuleResult DrawFault → Work → Work → S → S → Type 0
ActsFully g by w v s t = ActsByRule {A = Unit {0}} g clears_nothing ⊥ by w v s t (Ok (tt {0}))
