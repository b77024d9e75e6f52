-- What a writer ensures of the bytes lent to it.
use Rattle.std.specs.Prelude.{ℕ, ◌≡◌, List, length}
use Rattle.rules.specs.Calls.{overwritten}

-- a writer of `text` was lent `old`, left `new`, and returned r: the text lies over the front, the bytes past it stay, and r is its length
pub record Wrote (text : List ℕ) (r : ℕ) (old new : List ℕ) : Type 0 where
  pub count : r ≡ length text
  pub bytes : new ≡ overwritten text old
