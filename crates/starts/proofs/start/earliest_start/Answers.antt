-- `earliest_start` meets its contract.
use native.Mathlib.Omega.{arith}
use Rattle.model.specs.Colours.{as_colour}
use Rattle.starts.specs.Memories.{as_memory}
use Rattle.starts.proofs.EarliestStartLaws.{bounded, asked-demand, demand-bounds, own-bounds, earliest-none, earliest-at}
use Rattle.starts.proofs.start.earliest_start.Goals as goal

pub memory_start-requires : goal.memory_start-requires
memory_start-requires c =
    let b = c.requires.bounds.0 in record {
      ticks_within = c.requires.bounds.1;
      demand_bounds = (demand-bounds c.get-demand.ensures (own-bounds c.args.colour b), b.room);
    }

pub returns-in_err-asked-clause-result_value : goal.returns-in_err-asked-clause-result_value
returns-in_err-asked-clause-result_value c =
    let a = c.args in
    λ I Q i t.
    let d = asked-demand c.get-demand.ensures t.demand in
    rw c.from_residual.ensures
    (earliest-none (as_memory a.memory) I Q i (as_colour a.colour) d t.idle c.max-ready.ensures c.memory_start.result
    (c.memory_start.ensures.result_value I Q i (as_colour a.colour) t.well_formed t.placed t.stairs d t.room)
    c.in_err-asked.was)

pub returns : goal.returns
returns c =
    let a = c.args in
    let e = c.in_ok-asked.was in record {
      result_value = (λ I Q i t.
          let d = asked-demand c.get-demand.ensures t.demand in
          earliest-at (as_memory a.memory) I Q i (as_colour a.colour) d t.idle c.max-ready.ensures c.memory_start.result
          (c.memory_start.ensures.result_value I Q i (as_colour a.colour) t.well_formed t.placed t.stairs d t.room)
          e c.max.ensures);
      result_bound = omega (
        arith,
        bounded e c.memory_start.ensures.result_bound,
        c.max-ready.ensures,
        c.max.ensures,
        (demand-bounds c.get-demand.ensures (own-bounds a.colour c.requires.bounds.0)).arrival,
      );
    }
