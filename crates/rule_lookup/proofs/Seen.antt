-- What a walk may use of a sound state of which it sees some columns: each segment of the path, a tier's part of the pools, the bytes of a span. Assumes nothing.
use Prim.Native.Nat.{ℕ, zero, suc, ◌+◌, ◌-◌, ◌*◌, ◌≤◌, ◌<◌}
use mathlib.Core.List.{List, [], ◌∷◌, map}
use mathlib.Core.Path.{◌≡◌, refl, sym, ap, ◌∙◌, subst}
use native.Mathlib.Numerals.{add-one}
use native.Mathlib.Omega.{arith}
use lib.ListN.{length, get_or, drop, length-append, length-map, get_or-append, get_or-map, drop_of_length-le}
use lib.Seq.{drop-cons}
use Rattle.model.specs.Sizes.{max_bytes, max_hashes}
use Rattle.std.specs.Prelude.{Option}
use Rattle.model.specs.State.{State, Tree, Ranges, at}
use Rattle.model.specs.Store.{store_of, ranges}
use Rattle.model.specs.Tree.{Seg, resolve}
use Rattle.model.specs.Trim.{bytes_of}
use Rattle.model.specs.Lookup.{lookup_path, span_bytes}
use Rattle.model.specs.Refusals.{PathList}
use Rattle.model.specs.Calls.{front}
use Rattle.theory_resolve.proofs.Walked.{SegIn, SegsIn, resolve-segs}
use Rattle.theory_calls.proofs.Fits.{lookup_path-fits}
use Rattle.rule_resolve.specs.Span.{Priced, only_depth}
use Rattle.shape_answer.specs.Lists.{path_list_of}
use Rattle.rule_resolve.proofs.Sound.{sound-priced}
use Rattle.rule_lookup.specs.Tiers.{range_end, Seen}
use Rattle.rule_lookup.proofs.Laws.{three}
use Rattle.rule_lookup.proofs.Spans.{span_at}

seg_in : (t : Tree) (ss : List Seg) (d : Seg) (i : ℕ) → SegsIn t ss → i < length ss → SegIn t (get_or ss i d)
seg_in t [] d i h l = absurd (omega arith)
seg_in t (s ∷ ss) d zero h l = h.0
seg_in t (s ∷ ss) d (suc i) h l = seg_in t ss d i h.1 (omega arith)

-- a column of the path in front of a list
column_long : (f : Seg → ℕ) (path : List Seg) (l xs : List ℕ) → xs ≡ front (map f path) l → length path ≤ length xs
column_long f path l xs e = omega (arith, ap length e, length-append (map f path) (drop (length (map f path)) l), length-map path f)

column_at : (f : Seg → ℕ) (path : List Seg) (d : Seg) (l xs : List ℕ) (i : ℕ) → f d ≡ 0 → xs ≡ front (map f path) l → i < length path → at xs i ≡ f (get_or path i d)
column_at f path d l xs i z e h =
    ap (λ (ys : List ℕ). at ys i) e
    ∙ get_or-append (map f path) (drop (length (map f path)) l) 0 i (omega (arith, length-map path f))
    ∙ ap (λ (y : ℕ). get_or (map f path) i y) (sym z)
    ∙ get_or-map f path i d

abbrev pub seg_at : ℕ → ℕ → Seg
seg_at v z = record { node = v; len = z }

seg-is : {v z : ℕ} (s : Seg) → v ≡ s.node → z ≡ s.len → s ≡ seg_at v z
seg-is s p q = rw (p, q)

-- segment i of the path is z blocks of node v
pub record AtSeg (t : Tree) (path : List Seg) (i v z : ℕ) : Type 0 where
  pub node : v < t.nodes
  pub ends : z ≤ at t.len v
  pub left : drop i path ≡ seg_at v z ∷ drop (i + 1) path

module _ {ds : List ℕ} {c : Ranges} {bs rs pns pls : List ℕ} {n : ℕ} {ts : List ℕ} {st : State} {hs : List ℕ} (w : Seen ds c bs rs (path_list_of pns pls) n ts st hs) where
  pub seg-at : (i : ℕ) → i < n → AtSeg st.tree (resolve st.tree hs) i (at pns i) (at pls i)
  seg-at i h =
      let path = resolve st.tree hs in
      let less : i < length path = omega (arith, w.segs) in
      let node = column_at (λ s. s.node) path (seg_at 0 0) w.before.node pns i refl (ap (λ (l : PathList). l.node) w.path) less in
      let len = column_at (λ s. s.len) path (seg_at 0 0) w.before.len pls i refl (ap (λ (l : PathList). l.len) w.path) less in
      let is : get_or path i (seg_at 0 0) ≡ seg_at (at pns i) (at pls i) = seg-is (get_or path i (seg_at 0 0)) node len in
      let inside : SegIn st.tree (seg_at (at pns i) (at pls i)) = rw is at (seg_in st.tree path (seg_at 0 0) i (resolve-segs st w.sound hs) less) in
      record {
        node = inside.in_use;
        ends = inside.ends;
        left = drop-cons path i (seg_at 0 0) less ∙ rw (is, add-one);
      }

  pub path-past : (i : ℕ) → n ≤ i → drop i (resolve st.tree hs) ≡ []
  path-past i h = let long : length (resolve st.tree hs) ≤ i = omega (arith, w.segs) in drop_of_length-le (resolve st.tree hs) long

  -- what a tier's store asks for
  pub tier_asks : (t : ℕ) → t < length ts → (at ts t < 8) × (at rs (at ts t) ≤ 128) × (1024 ≤ length c.node) × (1024 ≤ length c.start) × (1024 ≤ length c.end)
  tier_asks t h =
      let s = w.stores t (omega arith) h in
      let small : at ts t < 8 = omega (arith, w.sound.counts.stores) in
      let lent = w.sound.lent.ranges in (
        small,
        subst (λ (n : ℕ). n ≤ 128) (sym (w.records (at ts t) (omega arith) small)) (w.sound.counts.each (at ts t) (omega arith) s).records,
        subst (λ (l : List ℕ). 1024 ≤ length l) w.node lent.node,
        subst (λ (l : List ℕ). 1024 ≤ length l) w.start lent.start,
        subst (λ (l : List ℕ). 1024 ≤ length l) w.end lent.end,
      )

  -- what it tells, in the state
  pub tier-tells : (t v o : ℕ) (r : Option ℕ) → t < length ts → r ≡ range_end v o (ranges c (128 * at ts t) (at rs (at ts t)))
      → r ≡ range_end v o (store_of st (at ts t)).ranges
  unfolding store_of
  tier-tells t v o r h f =
      f
      ∙ sym (three v o st.ranges c (128 * at ts t) (at rs (at ts t)) w.node w.start w.end)
      ∙ ap (λ (n : ℕ). range_end v o (ranges st.ranges (128 * at ts t) n)) (w.records (at ts t) (omega arith) (tier_asks t h).0)

  module _ (v o e z : ℕ) (in_use : v < st.tree.nodes) (ends : z ≤ at st.tree.len v) (order : o ≤ e) (within : e ≤ z) where
    pub span-priced : Priced ds bs (record { node = v; start = o; end = e })
    span-priced =
        let p = sound-priced st w.sound (record { node = v; start = o; end = e }) in_use order (omega arith) in
        rw (w.depth, w.bytes) at p

    pub bytes-few : (t : ℕ) → span_bytes st (span_at t v o e) ≤ max_bytes
    bytes-few t =
        let p = sound-priced st w.sound (record { node = v; start = o; end = e }) in_use order (omega arith) in
        omega (arith, w.sound.table.small (at st.tree.depth v + e) (omega arith) (omega (arith, p.ends)))

    pub blocks-few : e - o ≤ max_hashes
    blocks-few =
        let p = sound-priced st w.sound (record { node = v; start = o; end = e }) in_use order (omega arith) in
        omega (arith, p.ends)

    pub bytes-are : (t x : ℕ) → x ≡ bytes_of (only_depth ds) bs v o e → x ≡ span_bytes st (span_at t v o e)
    bytes-are t x h = let p = w.depth in let q = w.bytes in cc

    pub price_few : (x : ℕ) → x ≡ bytes_of (only_depth ds) bs v o e → x ≤ max_bytes
    price_few x h = omega (arith, bytes-are 0 x h, bytes-few 0)

  pub few-spans : length (lookup_path st ts (resolve st.tree hs)) ≤ 1024
  few-spans = lookup_path-fits st ts hs w.sound w.short
