-- Whether two runs overlap.
use Rattle.std.specs.Prelude.{ℕ, Bool, ◌&&◌, List, ltb, eqb, get_or}
use Rattle.runs.specs.declared.Run.{Run}

-- two runs are on one processor and share an instant
unfoldable pub overlapping : Run → Run → Bool
overlapping a b = eqb a.processor b.processor && ltb a.start b.finish && ltb b.start a.finish

-- no run: what stands past the end of a list
abbrev pub no_run : Run
no_run = record { processor = 0; start = 0; finish = 0 }

-- whether the run at k overlaps r
abbrev pub overlaps_at : List Run → Run → ℕ → Bool
overlaps_at l r k = overlapping (get_or l k no_run) r
