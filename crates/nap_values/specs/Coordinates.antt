use Rattle.std.specs.Prelude.{ℕ, ℤ, pos, negsuc, ◌+ℤ◌, ◌-ℤ◌, ◌<◌, ◌≤ℤ◌, ◌<ℤ◌, nat_lt, ◌&&◌, if◌then◌else◌, Option, Some, None}

-- a point of the unit screen, in units of 2^-23
pub record Coordinates : Type 0 where
  pub x : ℕ
  pub y : ℕ

-- a displacement, in units of 2^-23
pub record Displacement : Type 0 where
  pub x : ℤ
  pub y : ℤ

-- both coordinates are below 1, so the point is on the unit screen
abbrev pub IsInSquare : Coordinates → Type 0
IsInSquare p = (p.x < 8388608) × (p.y < 8388608)

-- both components are at least -2^23 and below 2^23
abbrev pub IsInRange : Displacement → Type 0
IsInRange m = (negsuc 8388607 ≤ℤ m.x) × (m.x <ℤ pos 8388608) × (negsuc 8388607 ≤ℤ m.y) × (m.y <ℤ pos 8388608)

-- the point with these coordinates, or none outside the unit screen
abbrev pub point_with : ℤ → ℤ → Option Coordinates
point_with (pos x) (pos y) = if nat_lt x 8388608 && nat_lt y 8388608 then Some (record { x = x; y = y }) else None
point_with _ _ = None

-- the point at this displacement from the origin, or none outside the unit screen
unfoldable pub point_at : Displacement → Option Coordinates
point_at m = point_with m.x m.y

-- the point moved by a displacement, or none outside the unit screen
unfoldable pub displaced_point : Coordinates → Displacement → Option Coordinates
displaced_point p m = point_with (pos p.x +ℤ m.x) (pos p.y +ℤ m.y)

-- the displacement from the first point to the second
unfoldable pub displacement_to : Coordinates → Coordinates → Displacement
displacement_to p q = record { x = pos q.x -ℤ pos p.x; y = pos q.y -ℤ pos p.y }
