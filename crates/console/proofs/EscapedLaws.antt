-- Escaped bytes: how many there are, that each is printable, and the invariant of the loop that writes them.
use Prim.Native.Nat.{ℕ, zero, suc, ◌+◌, ◌*◌, ◌-◌, ◌/◌, ◌%◌, ◌≤◌, ◌<◌}
use mathlib.Core.Bool.{true}
use mathlib.Core.Path.{◌≡◌, refl, sym, ap, ◌∙◌}
use mathlib.Core.List.{List, [], ◌∷◌, ◌++◌, append_assoc, append-nil}
use native.Mathlib.Nat.{le_of_suc-le-suc}
use native.Mathlib.Omega.{arith}
use native.Mathlib.Numerals.{add-one}
use borrow.Author.Tests.{le-leb, ltb-true}
use lib.Dec.{ltb, eqb}
use lib.ListN.{length, get_or, take, drop, length-append, length-drop, get_or-append}
use lib.Seq.{take-suc, take_all, length-take-le}
use Rattle.io.specs.Digits.{hex_digit_ascii}
use Rattle.rules.proofs.Tests.{split}
use Rattle.text.specs.Wrote.{Wrote}
use Rattle.std.proofs.lemmas.List.{take_rest}
use Rattle.text.proofs.WroteLaws.{wrote_none, wrote-length, wrote-part}
use Rattle.console.specs.Escaped.{printable, escaped_byte, escaped}

-- ---- how many
byte-length : (b : ℕ) → length (escaped_byte b) ≤ 4
byte-length b = split (printable b) (λ e. rw e (split (eqb b 92) (λ f. rw f (omega arith)) (λ f. rw f (omega arith)))) (λ e. rw e (omega arith))

escaped-length : (s : List ℕ) → length (escaped s) ≤ 4 * length s
unfolding escaped
escaped-length [] = omega arith
escaped-length (b ∷ s) = omega (arith, length-append (escaped_byte b) (escaped s), byte-length b, escaped-length s)

-- ---- one byte more
escaped-append : (s t : List ℕ) → escaped (s ++ t) ≡ escaped s ++ escaped t
unfolding escaped
escaped-append [] t = refl
escaped-append (b ∷ s) t = ap (λ (l : List ℕ). escaped_byte b ++ l) (escaped-append s t) ∙ sym (append_assoc (escaped_byte b) (escaped s) (escaped t))

escaped-one : (b : ℕ) → escaped (b ∷ []) ≡ escaped_byte b
unfolding escaped
escaped-one b = append-nil (escaped_byte b)

escaped-next : (s : List ℕ) (i : ℕ) → i < length s → escaped (take (i + 1) s) ≡ escaped (take i s) ++ escaped_byte (get_or s i 0)
escaped-next s i h = rw (add-one i, take-suc s i 0 h, escaped-append (take i s) (get_or s i 0 ∷ []), escaped-one)

-- ---- each byte is printable
abbrev Shown : List ℕ → Type 0
Shown l = (k : ℕ) → k < length l → printable (get_or l k 0) ≡ true

shown-none : Shown []
shown-none k h = absurd (omega arith)

shown-more : (b : ℕ) (l : List ℕ) → printable b ≡ true → Shown l → Shown (b ∷ l)
shown-more b l p q zero h = p
shown-more b l p q (suc k) h = q k (le_of_suc-le-suc h)

shown-append : (a l : List ℕ) → Shown a → Shown l → Shown (a ++ l)
shown-append [] l p q = q
shown-append (b ∷ a) l p q = shown-more b (a ++ l) (p 0 (omega arith)) (shown-append a l (λ k h. p (suc k) (omega arith)) q)

printable-within : (b : ℕ) → 32 ≤ b → b ≤ 126 → printable b ≡ true
printable-within b h l = rw (le-leb 32 b h, le-leb b 126 l)

glyph-printable : (d : ℕ) → d < 16 → printable (hex_digit_ascii d) ≡ true
glyph-printable d h =
    split (ltb d 10)
    (λ e. rw e (printable-within (48 + d) (omega arith) (omega (arith, ltb-true d 10 e))))
    (λ e. rw e (printable-within (87 + d) (omega arith) (omega arith)))

byte-shown : (b : ℕ) → Shown (escaped_byte b)
byte-shown b =
    split (printable b)
    (λ e. rw e
    (split (eqb b 92)
    (λ f. rw f (shown-more 92 (92 ∷ []) refl (shown-more 92 [] refl shown-none)))
    (λ f. rw f (shown-more b [] e shown-none))))
    (λ e. rw e
    (let u = hex_digit_ascii (b / 16 % 16) in
    let v = hex_digit_ascii (b % 16) in
    shown-more 92 (120 ∷ u ∷ v ∷ []) refl
    (shown-more 120 (u ∷ v ∷ []) refl
    (shown-more u (v ∷ []) (glyph-printable (b / 16 % 16) (omega arith)) (shown-more v [] (glyph-printable (b % 16) (omega arith)) shown-none)))))

escaped-shown : (s : List ℕ) → Shown (escaped s)
unfolding escaped
escaped-shown [] = shown-none
escaped-shown (b ∷ s) = shown-append (escaped_byte b) (escaped s) (byte-shown b) (escaped-shown s)

-- ---- a text's first i bytes are written, up to `at`
pub record Escaping (text old out : List ℕ) (at i : ℕ) : Type 0 where
  pub within : i ≤ length text
  pub wrote : Wrote (escaped (take i text)) at old out
  pub room : 4 * length text ≤ length old

pub escaping-start : (text old : List ℕ) → 4 * length text ≤ length old → Escaping text old old 0 0
unfolding escaped
escaping-start text old h = record { within = omega arith; wrote = wrote_none old; room = h }

module _ {text old out : List ℕ} {at i : ℕ} (r : Escaping text old out at i) where
  short : length (escaped (take i text)) ≤ 4 * i
  short = omega (arith, escaped-length (take i text), length-take-le i text r.within)

  fits : length (escaped (take i text)) ≤ length old
  fits = omega (arith, short, r.within, r.room)

  escaping-length : length out ≡ length old
  escaping-length = wrote-length r.wrote fits

  module _ (h : i < length text) where
    abbrev next : List ℕ
    next = escaped_byte (get_or text i 0)

    next_fits : length (escaped (take i text) ++ next) ≤ length old
    next_fits = omega (arith, length-append (escaped (take i text)) next, byte-length (get_or text i 0), short, r.room)

    pub byte_fits : 4 ≤ length (take (length out - at) (drop at out))
    byte_fits = rw (take_rest out at, length-drop) (omega (arith, short, r.wrote.count, r.room, escaping-length))

    pub escaping-more : (n : ℕ) (new : List ℕ) → Wrote next n (take (length out - at) (drop at out)) new
        → Escaping text old (take at out ++ (new ++ drop (length out - at) (drop at out))) (at + n) (i + 1)
    escaping-more n new w =
        record {
          within = omega arith;
          wrote = rw (escaped-next text i h) (wrote-part r.wrote next next_fits n new w);
          room = r.room;
        }

  escaping-end : length text ≤ i → Wrote (escaped text) at old out
  escaping-end h = rw (take_all i text h) at r.wrote

  pub escaping-shown : length text ≤ i → (k : ℕ) → k < at → printable (get_or out k 0) ≡ true
  escaping-shown h k l =
      let w = escaping-end h in
      let q : k < length (escaped text) = omega (arith, w.count) in
      rw (w.bytes, get_or-append (escaped text) _ 0 k q) (escaped-shown text k q)
