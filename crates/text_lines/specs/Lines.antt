-- What the readers of a line promise. Assumes nothing.
use Rattle.std.specs.Prelude.{◌≡◌, Bool, List, ℕ, ◌-◌, ◌≤◌, ◌<◌, eqb, length, drop}
use Rattle.std.proofs.Math.Seq.{slice}
use Rattle.text_words.specs.Words.{First, is, other}
use Rattle.text_lines.specs.declared.Op.{Op}
use Rattle.text_lines.specs.declared.Op.TheVariants.{Blank, Unreadable, SetUp, Insert, Resolve, Bring, Touch, Remove, Expire, Pin, Unpin, Lookup, State}

-- w is the next word of s, and r is what stands after it
pub record NextWord (s w r : List ℕ) : Type 0 where
  pub from : ℕ
  pub to : ℕ
  pub spaces : First (other 32) s 0 (length s) from
  pub ends : First (is 32) s from (length s) to
  pub word : w ≡ slice from to s
  pub rest : r ≡ drop to s

-- b says whether s is of spaces alone
pub record Ended (s : List ℕ) (b : Bool) : Type 0 where
  pub from : ℕ
  pub spaces : First (other 32) s 0 (length s) from
  pub is : b ≡ eqb from (length s)

-- r is what is left of s after one byte or more
pub record Passed (s r : List ℕ) : Type 0 where
  pub shorter : length r < length s
  pub end : r ≡ drop (length s - length r) s

-- an operation's lists are within the arrays that they are read into, or one more stands for any longer list
abbrev pub Filled : Op → Type 0
Filled Blank = Unit {0}
Filled Unreadable = Unit {0}
Filled (SetUp t n) = (t ≤ 1026) × (n ≤ 9)
Filled (Insert n) = n ≤ 1026
Filled (Resolve n) = n ≤ 1026
Filled (Bring s p t w) = Unit {0}
Filled (Touch s t c n) = n ≤ 65
Filled (Remove s p) = Unit {0}
Filled (Expire s t d) = Unit {0}
Filled (Pin s p) = Unit {0}
Filled (Unpin s p) = Unit {0}
Filled (Lookup t n) = (t ≤ 9) × (n ≤ 1026)
Filled State = Unit {0}
