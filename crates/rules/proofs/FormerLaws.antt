-- For runs that take time Order 1 changed nothing: instant_law, sheet_takes_time; on a job without W former_held_law, former_free_law, former_valid_law, former_place_law.
use Prim.Native.Nat.{ℕ, ◌+◌, ◌≤◌, ◌<◌, max}
use mathlib.Core.Bool.{true, cond}
use mathlib.Core.Path.{◌≡◌, sym, ap, ◌∙◌}
use native.Mathlib.Omega.{arith}
use Rattle.rules.specs.Model.{Colour, Instance, limit_of, task_count, NoWork, file_at, file_count, size_at, is_placed, Schedule, run_at, colour_of, finish_of, release_of}
use Rattle.rules.specs.Model.{start_at, finish_at, reader_run}
use Rattle.rules.specs.Residency.{covers, hold_by, hold_of, files_held, held}
use Rattle.rules.specs.Validity.{Complete, Claim, ShareInstant, Apart, WithinLimits, Greatest, Valid, Shares, OverLimit}
use Rattle.rules.specs.Promises.{WellFormed}
use Rattle.rules.specs.FormerRules.{FormerShareInstant, former_hold, former_held, FormerShares, FormerOver, FormerApart, FormerWithin, FormerValid}
use Rattle.rules.specs.FormerRules.{InstantLaw, RunsTakeTime, SheetTakesTime, FormerHeldLaw, FormerFreeLaw, FormerValidLaw, FormerPlaceLaw}
use Rattle.rules.proofs.Tests.{split}
use Rattle.rules.proofs.CountLaws.{sum-cong}
use Rattle.rules.proofs.ResidencyLaws.{free_from_law}
use Rattle.rules.proofs.WorkLaws.{files_alone_law}
use Rattle.rules.proofs.CompleteLaws.{spellable-complete}
use Rattle.rules.proofs.PlaceLaws.{first-same, place_law}

pub instant_law : InstantLaw
instant_law I P i j a b = (
  (λ x. record {
    instant = max (start_at P i) (start_at P j);
    first = record { begun = omega arith; unfinished = omega (arith, x.first, x.second) };
    second = record { begun = omega arith; unfinished = omega (arith, x.first, x.second) };
  }),
  (λ x. record { first = omega (arith, x.first.begun, x.second.unfinished); second = omega (arith, x.second.begun, x.first.unfinished) }),
)

pub sheet_takes_time : SheetTakesTime
sheet_takes_time I T P i l q = omega (arith, T (colour_of I (run_at P i)) i l)

module _ (I : Instance) (W : WellFormed I) (N : NoWork I) (P : Schedule) (T : RunsTakeTime I P) where
  -- ---- what is held

  released : (k : ℕ) → k < file_count I → is_placed (reader_run I P k) ≡ true
      → release_of I (file_at I k).reader (reader_run I P k) ≡ finish_of I (file_at I k).reader (reader_run I P k)
  released k l q = omega (arith, T (file_at I k).reader (W.exists k l) q)

  hold-same : (c : Colour) (k : ℕ) → k < file_count I → hold_of I P c k ≡ former_hold I P c k
  unfolding hold_by former_hold
  hold-same c k l = split (is_placed (reader_run I P k)) (λ q. rw (released k l q)) (λ q. rw q)

  files-same : (c : Colour) (t : ℕ) → files_held I P c t ≡ former_held I P c t
  unfolding files_held former_held
  files-same c t = sum-cong (file_count I) _ _ (λ k l. ap (λ h. cond (covers h t) (size_at I k) 0) (hold-same c k l))

  held_same : (c : Colour) (t : ℕ) → held I P c t ≡ former_held I P c t
  held_same c t = (files_alone_law I N P c).total t ∙ files-same c t

  over-former : (t : ℕ) → OverLimit I P t → FormerOver I P t
  over-former t o = record { memory = o.memory; more = omega (arith, o.more, held_same o.memory t) }

  former-over : (t : ℕ) → FormerOver I P t → OverLimit I P t
  former-over t o = record { memory = o.memory; more = omega (arith, o.more, held_same o.memory t) }

  within-former : WithinLimits I P → FormerWithin I P
  within-former w c t = omega (arith, w c t, held_same c t)

  former-within : FormerWithin I P → WithinLimits I P
  former-within w c t = omega (arith, w c t, held_same c t)

  free-former : (c : Colour) (need s : ℕ) → ((u : ℕ) → s ≤ u → held I P c u + need ≤ limit_of I c) → (u : ℕ) → s ≤ u → former_held I P c u + need ≤ limit_of I c
  free-former c need s h u l = omega (arith, h u l, held_same c u)

  former-free : (c : Colour) (need s : ℕ) → ((u : ℕ) → s ≤ u → former_held I P c u + need ≤ limit_of I c) → (u : ℕ) → s ≤ u → held I P c u + need ≤ limit_of I c
  former-free c need s h u l = omega (arith, h u l, held_same c u)

module _ (I : Instance) (W : WellFormed I) (N : NoWork I) (P : Schedule) (T : RunsTakeTime I P) (complete : Complete I P) where
  -- ---- sharing an instant

  takes : (i : ℕ) → i < task_count I → start_at P i < finish_at I P i
  takes i l = T i l (complete i l)

  share-former : (i j : ℕ) → i < task_count I → j < task_count I → ShareInstant I P i j → FormerShareInstant I P i j
  share-former i j l m = (instant_law I P i j (takes i l) (takes j m)).0

  former-share : (i j : ℕ) → i < task_count I → j < task_count I → FormerShareInstant I P i j → ShareInstant I P i j
  former-share i j l m = (instant_law I P i j (takes i l) (takes j m)).1

  shares-former : (i : ℕ) → Shares I P i → FormerShares I P i
  shares-former i x = record {
    exists = x.exists;
    other = x.other;
    other_exists = x.other_exists;
    differs = x.differs;
    processor = x.processor;
    shares = share-former i x.other x.exists x.other_exists x.shares;
  }

  former-shares : (i : ℕ) → FormerShares I P i → Shares I P i
  former-shares i x = record {
    exists = x.exists;
    other = x.other;
    other_exists = x.other_exists;
    differs = x.differs;
    processor = x.processor;
    shares = former-share i x.other x.exists x.other_exists x.shares;
  }

  apart-former : Apart I P → FormerApart I P
  apart-former a i j l m d p x = a i j l m d p (former-share i j l m x)

  former-apart : FormerApart I P → Apart I P
  former-apart a i j l m d p x = a i j l m d p (share-former i j l m x)

  -- ---- the greatest total, and validity

  greatest-same : (f g : ℕ → ℕ) (n : ℕ) → ((t : ℕ) → f t ≡ g t) → Greatest (λ t. Unit {0}) f n → Greatest (λ t. Unit {0}) g n
  greatest-same f g n e x =
      let (t, u, r) = x.reached in
      record { bound = λ t u. omega (arith, x.bound t u, e t); reached = (t, u, omega (arith, r, e t)) }

  valid-former : (claim : Claim) → Valid I P claim → FormerValid I P claim
  valid-former claim v = record {
    apart = apart-former v.apart;
    on_time = v.on_time;
    within = within-former I W N P T v.within;
    span = v.claim_true.span;
    blue_peak = greatest-same _ _ _ (λ t. held_same I W N P T _ t) v.claim_true.blue_peak;
    red_peak = greatest-same _ _ _ (λ t. held_same I W N P T _ t) v.claim_true.red_peak;
  }

  former-valid : (claim : Claim) → FormerValid I P claim → Valid I P claim
  former-valid claim v = record {
    apart = former-apart v.apart;
    on_time = v.on_time;
    within = former-within I W N P T v.within;
    claim_true = record {
      span = v.span;
      blue_peak = greatest-same _ _ _ (λ t. sym (held_same I W N P T _ t)) v.blue_peak;
      red_peak = greatest-same _ _ _ (λ t. sym (held_same I W N P T _ t)) v.red_peak;
    };
  }

pub former_held_law : FormerHeldLaw
former_held_law I W N P T c t = held_same I W N P T c t

pub former_free_law : FormerFreeLaw
former_free_law I W N P T c need t = (
  (λ e. first-same (free-former I W N P T c need) (former-free I W N P T c need) ((free_from_law I P c need t).0 e)),
  (λ f. (free_from_law I P c need t).1 (first-same (former-free I W N P T c need) (free-former I W N P T c need) f)),
)

pub former_valid_law : FormerValidLaw
former_valid_law I W N P claim s T =
    let all = spellable-complete I P claim s in
    (valid-former I W N P T all claim, former-valid I W N P T all claim)

pub former_place_law : FormerPlaceLaw
former_place_law I W N P claim s T =
    let p = place_law I W P claim s in
    let all = spellable-complete I P claim s in
    record {
      at15 = λ n. (
        (λ e. first-same (shares-former I W N P T all) (former-shares I W N P T all) ((p.at15 n).0 e)),
        (λ f. (p.at15 n).1 (first-same (former-shares I W N P T all) (shares-former I W N P T all) f)),
      );
      at16 = λ n. (
        (λ e. let (a, f) = (p.at16 n).0 e in (apart-former I W N P T all a, f)),
        (λ x. (p.at16 n).1 (former-apart I W N P T all x.0, x.1)),
      );
      at17 = λ n. (
        (λ e. let (a, o, f) = (p.at17 n).0 e in (apart-former I W N P T all a, o, first-same (over-former I W N P T) (former-over I W N P T) f)),
        (λ x. (p.at17 n).1 (former-apart I W N P T all x.0, x.1, first-same (former-over I W N P T) (over-former I W N P T) x.2)),
      );
      at18 = (
        (λ e. let (a, o, w, n) = p.at18.0 e in (apart-former I W N P T all a, o, within-former I W N P T w, λ v. n (former-valid I W N P T all claim v))),
        (λ x. p.at18.1 (former-apart I W N P T all x.0, x.1, former-within I W N P T x.2, λ v. x.3 (valid-former I W N P T all claim v))),
      );
    }
