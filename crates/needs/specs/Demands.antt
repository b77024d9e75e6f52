-- What a task needs on a colour, as the rules have it.
use Rattle.std.specs.Prelude.{ℕ, ◌*◌, ◌≤◌, ◌≡◌}
use Rattle.rules.specs.Count.{sum_where, max_where}
use Rattle.rules.specs.Limits.{move_times, file_sizes}
use Rattle.rules.specs.Model.{Colour, Instance, Schedule, size_at, move_time_at}
use Rattle.rules.specs.Scheduling.{reads, crossing, arrival, crossing_size, crossing_time, input_start}
use Rattle.model.specs.Layout.{last_start}
use Rattle.needs.specs.declared.demand.Demand.{Demand}

-- the demand of task i on colour c
pub record DemandOf (I : Instance) (P : Schedule) (i : ℕ) (c : Colour) (d : Demand) : Type 0 where
  pub incoming : d.incoming ≡ crossing_size I P i c
  pub arrival : d.arrival ≡ input_start I P i c
  pub longest : d.longest ≡ crossing_time I P i c

-- the same of the files below n alone
pub record DemandBelow (I : Instance) (P : Schedule) (i : ℕ) (c : Colour) (n : ℕ) (d : Demand) : Type 0 where
  pub incoming : d.incoming ≡ sum_where n (crossing I P i c) (size_at I)
  pub arrival : d.arrival ≡ max_where n (reads I i) (arrival I P i c)
  pub longest : d.longest ≡ max_where n (crossing I P i c) (move_time_at I)

-- no demand of n files is greater
pub record DemandBounds (n : ℕ) (d : Demand) : Type 0 where
  pub incoming : d.incoming ≤ file_sizes.most * n
  pub arrival : d.arrival ≤ last_start
  pub longest : d.longest ≤ move_times.most
