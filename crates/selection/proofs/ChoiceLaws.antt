-- The trials of one task: the cases of the small functions on choices.
use Prim.Native.Nat.{ℕ, ◌<◌}
use mathlib.Core.Bool.{true}
use mathlib.Core.List.{List}
use mathlib.Core.Path.{◌≡◌, ◌∙◌}
use Rattle.rules.specs.Model.{blue, red, Instance, task_count}
use Rattle.rules.specs.Scheduling.{Memory, Partial, ready, earliest_start, tried, earlier, both_colours}
use Rattle.model.specs.declared.colour.Colour.TheVariants.{Blue, Red}
use Rattle.staircase.specs.Steps.{as_option}
use Rattle.starts.specs.Kept.{Kept, Tried}
use Rattle.std.specs.Prelude.{Option}
use Rattle.rules.specs.Staircase.{Step}
use Rattle.model.specs.declared.colour.ByColour.{ByColour}
use Rattle.model.specs.declared.trial.Trial.{Trial}
use Rattle.needs.specs.declared.table.Need.{Need}
use Rattle.needs.specs.declared.table.Needs.{Needs}
use Rattle.needs.specs.Tables.{need_at}
use Rattle.selection.specs.Choices.{as_choice, IdleOf}

pub both_at : (m : Memory) (I : Instance) (Q : Partial) (i : ℕ) (f g : Option ℕ) (a b r : Option Trial)
    → as_option f ≡ earliest_start m I Q i blue → as_option g ≡ earliest_start m I Q i red
    → as_choice a ≡ tried i blue (as_option f) → as_choice b ≡ tried i red (as_option g)
    → as_choice r ≡ earlier I (as_choice a) (as_choice b) → as_choice r ≡ both_colours m I Q i
unfolding both_colours
both_at m I Q i f g a b r ef eg ea eb er = er ∙ rw (ea, eb, ef, eg)

-- ---- what a trial goes by, of what is kept

module _ {I : Instance} {Q : Partial} {needs : Needs} {stairs : ByColour (List Step)} (K : Kept I Q needs stairs) {idle : ByColour ℕ} (e : IdleOf I Q idle)
    {i : ℕ} (h : i < task_count I) (r : ready I Q.schedule i ≡ true) {x : Need} (n : x ≡ need_at needs i) where
  pub on-blue : Tried I Q x stairs.blue idle.blue i Blue
  on-blue = record {
    well_formed = K.well_formed;
    placed = K.placed;
    demand = rw n ((K.needs.admitted i h).demand r Blue);
    room = rw n (K.needs.sized i h).room;
    stairs = K.blue;
    idle = e.blue;
  }

  pub on-red : Tried I Q x stairs.red idle.red i Red
  on-red = record {
    well_formed = K.well_formed;
    placed = K.placed;
    demand = rw n ((K.needs.admitted i h).demand r Red);
    room = rw n (K.needs.sized i h).room;
    stairs = K.red;
    idle = e.red;
  }

-- ---- the same lists by other names

pub kept_as : {I : Instance} {Q : Partial} {needs : Needs} {stairs : ByColour (List Step)} {xs ys : List Step} → Kept I Q needs stairs
    → xs ≡ stairs.blue → ys ≡ stairs.red → Kept I Q needs (record { blue = xs; red = ys })
kept_as K e f = record {
  well_formed = K.well_formed;
  placed = K.placed;
  needs = K.needs;
  blue = rw e K.blue;
  red = rw f K.red;
}
