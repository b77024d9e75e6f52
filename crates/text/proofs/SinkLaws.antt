-- Laying down pieces in a sink: each behind the pieces already laid down.
use Prim.Native.Nat.{ℕ, zero, suc, ◌+◌, ◌≤◌, ◌<◌}
use mathlib.Core.Path.{◌≡◌}
use mathlib.Core.List.{List, [], ◌++◌, append-nil}
use native.Mathlib.Numerals.{add-one}
use native.Mathlib.Omega.{arith}
use Rattle.rules.proofs.Tests.{by_order}
use Rattle.text.specs.Laid.{Lawful}

-- f i is the first i pieces, g i is piece i
pub record Pieces (f g : ℕ → List ℕ) : Type 0 where
  pub none : f 0 ≡ []
  pub grow : (i : ℕ) → f (suc i) ≡ f i ++ g i

module _ {T : Type 0} {room : T → List ℕ → Type 0} {laid : T → List ℕ → T → Type 0} (L : Lawful room laid) {f g : ℕ → List ℕ} (p : Pieces f g) where
  room-to : (s : T) (i n : ℕ) → i ≤ n → room s (f n) → room s (f i)
  room-to s i zero h r = let q : i ≡ 0 = omega arith in rw q r
  room-to s i (suc n) h r =
      by_order n i
      (λ l. let q : i ≡ suc n = omega arith in rw q r)
      (λ l. room-to s i n l (L.front s (f n) (g n) (rw (p.grow n) at r)))

  pub pieces-none : {s : T} (n : ℕ) → room s (f n) → laid s (f 0) s
  pieces-none {s} n r = rw p.none (L.none s (rw p.none at (room-to s 0 n (omega arith) r)))

  module _ {s t : T} (i : ℕ) (l : laid s (f i) t) {w : List ℕ} (e : w ≡ g i) where
    pub piece-room : (n : ℕ) → i < n → room s (f n) → room t w
    piece-room n h r = rw e (L.left s t (f i) (g i) (rw (p.grow i) at (room-to s (suc i) n h r)) l)

    pub piece-laid : {u : T} → laid t w u → laid s (f (i + 1)) u
    piece-laid {u} m = rw (add-one i, p.grow i, ← e) (L.more s t u (f i) w l m)

  pub piece-skip : {s t : T} (i : ℕ) → laid s (f i) t → g i ≡ [] → laid s (f (i + 1)) t
  piece-skip i l z = rw (add-one i, p.grow i, z, append-nil (f i)) l

-- three pieces, one behind the other
module _ {T : Type 0} {room : T → List ℕ → Type 0} {laid : T → List ℕ → T → Type 0} (L : Lawful room laid) {s : T} (a b c : List ℕ)
    (r : room s ((a ++ b) ++ c)) where
  pub first-room : room s a
  first-room = L.front s a b (L.front s (a ++ b) c r)

  pub second-room : {t : T} → laid s a t → room t b
  second-room {t} l = L.left s t a b (L.front s (a ++ b) c r) l

  pub third-room : {t u : T} → laid s a t → laid t b u → room u c
  third-room {t} {u} l m = L.left s u (a ++ b) c r (L.more s t u a b l m)

  pub three-laid : {t u v : T} → laid s a t → laid t b u → laid u c v → laid s ((a ++ b) ++ c) v
  three-laid {t} {u} {v} l m n = L.more s u v (a ++ b) c (L.more s t u a b l m) n
