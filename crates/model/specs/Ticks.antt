-- Ticks, where there may be none.
use Rattle.std.specs.Prelude.{ℕ, min, Option, Some, None}

-- the sooner of two
abbrev pub sooner : Option ℕ → Option ℕ → Option ℕ
sooner (Some s) (Some t) = Some (min s t)
sooner (Some s) None = Some s
sooner None b = b
