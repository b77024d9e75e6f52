use Rattle.std.proofs.Common.{◌≡◌, arith}
use Rattle.changes.proofs.ListLaws.{listing_none, listing-next}
use Rattle.changes.proofs.listing.push_all.Goals as goal

pub loop-k-init : goal.loop-k-init
loop-k-init g c = record { more = omega arith; changes = λ f h. listing_none _ _ }

pub push-requires : goal.push-requires
push-requires g c =
    let w = c.requires.within c.loop-k.k c.residency-hold.result c.loop-k-test.true c.residency-hold.ensures in
    (omega arith, w.0, w.1)

pub loop-k-preserved : goal.loop-k-preserved
loop-k-preserved g c = record {
  more = omega arith;
  changes = λ f h.
      let e = h c.loop-k.k c.residency-hold.result c.loop-k-test.true c.residency-hold.ensures in
      listing-next f c.loop-k.k (c.loop-k.invariant.changes f h) e.0 e.1 c.push.ensures;
}

pub returns-clause-changes : goal.returns-clause-changes
returns-clause-changes g c = let e : c.loop-k.k ≡ c.args.n = omega arith in λ f h. rw e at (c.loop-k.invariant.changes f h)
