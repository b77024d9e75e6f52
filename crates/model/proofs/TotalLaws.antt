-- One turn of the sum of what is held: the next hold's amount, if that covers the tick.
use Prim.Native.Nat.{ℕ, ◌+◌}
use mathlib.Core.Bool.{cond}
use mathlib.Core.Path.{◌≡◌, sym}
use Rattle.rules.specs.Changes.{Residency}
use Rattle.rules.specs.Count.{sum_where}
use Rattle.rules.specs.Residency.{Hold, covers}
use Rattle.model.proofs.StepLaws.{sum-next}

pub held-next : (f : ℕ → Residency) (t k : ℕ) {s d a : ℕ} {h : Hold} → s ≡ sum_where k (λ k. covers (f k).hold t) (λ k. (f k).size)
    → h ≡ (f k).hold → a ≡ (f k).size → d ≡ cond (covers h t) a 0 → s + d ≡ sum_where (k + 1) (λ k. covers (f k).hold t) (λ k. (f k).size)
held-next f t k v e q w = rw (v, w, e, q) (sym (sum-next (λ k. cond (covers (f k).hold t) (f k).size 0) k))
