-- The demand of a task on a colour: of the files before the first of its chain, with one file added, up to the next of the chain, and of all files.
use lib.ListN.{length}
use Prim.Native.Nat.{ℕ, suc, ◌+◌, ◌≤◌, ◌<◌, max}
use mathlib.Core.Bool.{true, false}
use mathlib.Core.Path.{◌≡◌, refl, sym, ap, ◌∙◌}
use native.Mathlib.Omega.{arith}
use native.Mathlib.Numerals.{add-one}
use Rattle.rules.specs.Model.{Colour, Instance, Schedule, file_at, file_count, finish_at, made_at, size_at, move_time_at}
use Rattle.rules.specs.Scheduling.{reads, crossing, arrival, crossing_size, crossing_time, input_start}
use Rattle.model.specs.declared.crossing.Cost.{Cost}
use Rattle.model.specs.Costs.{CostOf}
use Rattle.model.specs.declared.job.Job.{Job}
use Rattle.model.specs.Layout.{Entries}
use Rattle.model.specs.Jobs.{instance_in, schedule_by}
use Rattle.model.proofs.JobLaws.{files-in}
use Rattle.model.proofs.StepLaws.{sum-turn, max-turn}
use Rattle.links.specs.Chains.{NextOf}
use Rattle.links.proofs.ChainLaws.{sum_first, max-first, sum-skip, max-skip}
use Rattle.needs.specs.declared.demand.Demand.{Demand}
use Rattle.needs.specs.Demands.{DemandOf, DemandBelow, DemandBounds}

module _ (j : Job) (L : Entries) (i : ℕ) (c : Colour) where
  abbrev I : Instance
  I = instance_in j

  abbrev P : Schedule
  P = schedule_by j L

  -- only a file that is read crosses
  crossing-only : (k : ℕ) → reads I i k ≡ false → crossing I P i c k ≡ false
  crossing-only k e = rw e

  -- before the first file that it reads
  pub demand-first : {r : ℕ} → NextOf (length j.files.now) (reads I i) 0 r → DemandBelow I P i c r (record { incoming = 0; arrival = 0; longest = 0 })
  demand-first next = record {
    incoming = sym (sum_first next (crossing I P i c) crossing-only (size_at I));
    arrival = sym (max-first next (reads I i) (λ k e. e) (arrival I P i c));
    longest = sym (max-first next (crossing I P i c) crossing-only (move_time_at I));
  }

  -- file k, from what the accessors read
  module _ {k : ℕ} (h : k < (length j.files.now)) {d : Demand} (before : DemandBelow I P i c k d)
      {m made : ℕ} {x : Cost} (maker : m ≡ (file_at I k).maker) (read : reads I i k ≡ true) (cost : CostOf I P i c k x)
      (finish : made ≡ finish_at I P m) where
    arrival-at : arrival I P i c k ≡ made + x.move_time
    arrival-at =
        let q : made_at I P k ≡ made = sym (finish ∙ ap (λ m. finish_at I P m) maker) in
        omega (arith, cost.move_time, q)

    pub demand-next : {u v : ℕ} → u ≡ max d.arrival (made + x.move_time) → v ≡ max d.longest x.move_time
        → DemandBelow I P i c (k + 1) (record { incoming = d.incoming + x.newly_held; arrival = u; longest = v })
    demand-next eu ev = record {
      incoming = omega (arith, before.incoming, sum-turn k (crossing I P i c) (size_at I) cost.newly_held refl refl);
      arrival = omega (arith, before.arrival, max-turn k (reads I i) (arrival I P i c) {b = true} {s = made + x.move_time} {r = made + x.move_time} refl (sym read) arrival-at);
      longest = omega (arith, before.longest, max-turn k (crossing I P i c) (move_time_at I) cost.move_time refl refl);
    }

  -- up to the next file that it reads
  pub demand-skip : {k r : ℕ} {d : Demand} → NextOf (length j.files.now) (reads I i) (suc k) r → DemandBelow I P i c (k + 1) d → DemandBelow I P i c r d
  demand-skip {k} {r} {d} next x =
      let y : DemandBelow I P i c (suc k) d = rw (add-one k) at x in
      record {
        incoming = y.incoming ∙ sym (sum-skip next (crossing I P i c) crossing-only (size_at I));
        arrival = y.arrival ∙ sym (max-skip next (reads I i) (λ k e. e) (arrival I P i c));
        longest = y.longest ∙ sym (max-skip next (crossing I P i c) crossing-only (move_time_at I));
      }

  pub demand-all : {n : ℕ} {d : Demand} → DemandBelow I P i c n d → n ≡ (length j.files.now) → DemandOf I P i c d
  unfolding crossing_size input_start crossing_time
  demand-all {n} {d} x e =
      let g : n ≡ file_count I = e ∙ sym (files-in j) in
      let y : DemandBelow I P i c (file_count I) d = rw g at x in
      record { incoming = y.incoming; arrival = y.arrival; longest = y.longest }

-- more files, wider bounds
pub demand-within : {m n : ℕ} {d : Demand} → m ≤ n → DemandBounds m d → DemandBounds n d
demand-within l x = record { incoming = omega (arith, x.incoming); arrival = x.arrival; longest = x.longest }
