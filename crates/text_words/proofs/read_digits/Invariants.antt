use Prim.Native.Nat.{ℕ}
use mathlib.Core.Path.{◌≡◌}
use Rattle.text_words.specs.Words.{number_of}
use Rattle.text_words.proofs.Laws.{Reads}
use Rattle.std.specs.Prelude.{Option}
use Rattle.text_words.proofs.read_digits.Given as goal

abbrev pub invariant-loop-b : goal.invariant-loop-b
invariant-loop-b l = (o : Option ℕ) → l.initial.m ≡ number_of o → Reads l.m l.base l.s l.b-index o
