-- What a bring-in into a store's part needs, once its gaps and their blocks are known. Assumes nothing.
use Rattle.std.specs.Prelude.{ℕ, ◌+◌, ◌≡◌, List, Float}
use Rattle.model.specs.State.{Ranges}
use Rattle.model.specs.Store.{ranges, total}
use Rattle.model.specs.Bring.{gap_blocks, fill}
use Rattle.model.specs.Refusals.{OutList}
use Rattle.theory_sound.specs.Facts.{All}
use Rattle.rule_fill.specs.declared.Gaps.{Gaps}
use Rattle.rule_fill.specs.Gaps.{gaps_of}
use Rattle.rule_fill.specs.Fill.{Room}
use Rattle.rule_evict.specs.Evict.{Reach}
use Rattle.rule_evict.specs.Given.{Ready}

-- the part is ready to be trimmed, the gaps have room in it, h blocks are held once they are filled, and the byte table reaches these
pub record PartReady (depth bytes : List ℕ) (n h : ℕ) (c : Ranges) (ms : List ℕ) (l : OutList) (nd : ℕ) (g : Gaps) (top next : ℕ) (time : Float) (w : ℕ) : Type 0 where
  pub ready : Ready depth bytes n (total (ranges c 0 n)) c ms l
  pub room : Room n g.n top next
  pub held : h ≡ total (ranges c 0 n) + gap_blocks (gaps_of g)
  pub reach : All (Reach depth) (fill nd (gaps_of g) top next time w (ranges c 0 n))
