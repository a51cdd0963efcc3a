-- The lists that are lent have room for any answer, and an answer's lists are within their places. Assumes nothing.
use Rattle.std.specs.Prelude.{ℕ, ◌≤◌, length}
use Rattle.shape_answer.specs.declared.Resolved.{Resolved}
use Rattle.shape_answer.specs.declared.Resolved.TheVariants as ResolvedIs
use Rattle.shape_answer.specs.declared.Inserted.{Inserted}
use Rattle.shape_answer.specs.declared.Inserted.TheVariants as InsertedIs
use Rattle.shape_answer.specs.declared.StoreInserted.{StoreInserted}
use Rattle.shape_answer.specs.declared.StoreInserted.TheVariants as StoreInsertedIs
use Rattle.shape_answer.specs.declared.StoreExpired.{StoreExpired}
use Rattle.shape_answer.specs.declared.StoreExpired.TheVariants as StoreExpiredIs
use Rattle.shape_answer.specs.declared.StoreRemoved.{StoreRemoved}
use Rattle.shape_answer.specs.declared.StoreRemoved.TheVariants as StoreRemovedIs
use Rattle.shape_answer.specs.declared.Looked.{Looked}
use Rattle.shape_answer.specs.declared.Looked.TheVariants as LookedIs
use Rattle.text_answer.specs.declared.Segments.{Segments}
use Rattle.text_answer.specs.declared.Outs.{Outs}
use Rattle.text_answer.specs.declared.TierSpans.{TierSpans}

abbrev pub PathRoom : Segments → Type 0
PathRoom p = (255 ≤ length p.node.now) × (255 ≤ length p.len.now)

abbrev pub OutRoom : Outs → Type 0
OutRoom o =
    (128 ≤ length o.node.now) × (128 ≤ length o.start.now) × (128 ≤ length o.end.now)
    × (128 ≤ length o.write.now) × (128 ≤ length o.bytes.now) × (128 ≤ length o.dead.now)

abbrev pub SpanRoom : TierSpans → Type 0
SpanRoom s = (1024 ≤ length s.tier.now) × (1024 ≤ length s.node.now) × (1024 ≤ length s.start.now) × (1024 ≤ length s.end.now)

abbrev pub PathIn : Resolved → Type 0
PathIn (ResolvedIs.Refused n) = Unit {0}
PathIn (ResolvedIs.Done d) = d.path.segs ≤ 255

abbrev pub InsertIn : Inserted → Type 0
InsertIn (InsertedIs.Refused n) = Unit {0}
InsertIn (InsertedIs.Done d) = d.path.segs ≤ 255

abbrev pub BringIn : StoreInserted → Type 0
BringIn (StoreInsertedIs.Refused n) = Unit {0}
BringIn (StoreInsertedIs.Done d) = d.outs ≤ 128

abbrev pub ExpireIn : StoreExpired → Type 0
ExpireIn (StoreExpiredIs.Refused n) = Unit {0}
ExpireIn (StoreExpiredIs.Done d) = d.outs ≤ 128

abbrev pub RemoveIn : StoreRemoved → Type 0
RemoveIn (StoreRemovedIs.Refused n) = Unit {0}
RemoveIn (StoreRemovedIs.Done d) = d.writes ≤ 128

-- a lookup through n tiers
abbrev pub LookupIn : ℕ → Looked → Type 0
LookupIn n (LookedIs.Refused m) = Unit {0}
LookupIn n (LookedIs.Done d) = (d.path.segs ≤ 255) × (d.spans ≤ 1024) × (n ≤ 8)
