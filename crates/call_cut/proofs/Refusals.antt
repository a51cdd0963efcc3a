-- The number of the first condition of an insert that holds, from the tests that the code makes.
use mathlib.Core.Path.{◌≡◌, refl, sym, ap, ap₂, subst, ◌∙◌}
use mathlib.Core.Bool.{Bool, true, false, ◌&&◌, ◌||◌}
use mathlib.Core.List.{List}
use Prim.Native.Nat.{ℕ, zero, suc, ◌+◌, ◌-◌, ◌*◌, ◌≤◌, ◌<◌, zero-le}
use native.Mathlib.Omega.{arith}
use borrow.Author.Tests.{lt-ltb, le-ltb}
use lib.Dec.{ltb}
use lib.ListN.{length}
use Rattle.model.specs.Words.{any}
use Rattle.model.specs.Sizes.{max_nodes, max_words, max_stores, max_numbers, max_stamp, store_records, store_pins}
use Rattle.model.specs.State.{Ranges, Pins, State, at, nodes_in, used_in, stores_in, next_id_in, stores_of, next_id_of, records_of, entries_of}
use Rattle.model.specs.Sound.{Sound}
use Rattle.model.specs.Tree.{Seg, resolve, blocks}
use Rattle.model.specs.Store.{store_of, ranges, pins, plus}
use Rattle.model.specs.Insert.{match_end, adds, ends_inside, ranges_across, pins_across}
use Rattle.model.specs.Refusals.{node_need, new_blocks, cuts, cut_records, cut_entries, cut_ids}
use Rattle.pool_book.specs.Books.{records_in, entries_in}
use Rattle.pool_book.proofs.Laws.{records-at, entries_at}
use Rattle.rule_resolve.specs.declared.Match.{Match}
use Rattle.call_cut.specs.Needs.{overfull, overpinned, ids_below}
use Rattle.theory_calls.proofs.Cut.{records-counted, entries-counted}
use Rattle.theory_calls.proofs.Parts.{sound-parts}
use Rattle.theory_cut.proofs.Insert.{match-end}
use Rattle.call_cut.specs.Refusal.{insert_refusal, cut_number, cut_refusal, Seen, Shown}

any_none : (n : ℕ) (t : ℕ → Bool) → ((s : ℕ) → s < n → t s ≡ false) → any n t ≡ false
unfolding any
any_none zero t h = refl
any_none (suc n) t h = rw (h n (omega arith)) (any_none n t (λ s l. h s (omega arith)))

any_same : (n : ℕ) (t u : ℕ → Bool) → ((s : ℕ) → s < n → t s ≡ u s) → any n t ≡ any n u
unfolding any
any_same zero t u h = refl
any_same (suc n) t u h = ap₂ (λ a b. a || b) (h n (omega arith)) (any_same n t u (λ s l. h s (omega arith)))

-- the first of the five
abbrev five : Bool → Bool → Bool → Bool → Bool → ℕ
five true b c d e = 6
five false true c d e = 7
five false false c d e = cut_number c d e

module _ (st : State) (hs : List ℕ) where
  abbrev records_over : ℕ → Bool
  records_over s = ltb store_records (records_of st s + cut_records st hs s)

  abbrev entries_over : ℕ → Bool
  entries_over s = ltb store_pins (entries_of st s + cut_entries st hs s)

  first-is : insert_refusal st hs
      ≡ five (ltb max_nodes (st.tree.nodes + node_need st hs)) (ltb max_words (st.tree.used + new_blocks st hs)) (any (stores_of st) records_over)
      (any (stores_of st) entries_over) (ltb max_stamp (next_id_of st + cut_ids st hs (stores_of st)))
  unfolding insert_refusal
  first-is =
      go (ltb max_nodes (st.tree.nodes + node_need st hs)) (ltb max_words (st.tree.used + new_blocks st hs)) (any (stores_of st) records_over)
      (any (stores_of st) entries_over) (ltb max_stamp (next_id_of st + cut_ids st hs (stores_of st)))
    where
      go : (a b c d e : Bool)
          → (elim a as (λ z. ℕ) [ true ↦ 6 | false ↦ elim b as (λ z. ℕ) [ true ↦ 7 | false ↦ elim c as (λ z. ℕ) [ true ↦ 8 | false ↦ elim d as (λ z. ℕ) [ true ↦ 9 | false ↦ elim e as (λ z. ℕ) [ true ↦ 11 | false ↦ 0 ] ] ] ] ])
          ≡ five a b c d e
      go true b c d e = refl
      go false true c d e = refl
      go false false true d e = refl
      go false false false true e = refl
      go false false false false true = refl
      go false false false false false = refl

  need-none : adds hs (resolve st.tree hs) ≡ false → node_need st hs ≡ 0
  unfolding node_need
  need-none e = rw (e, node_need)

  need-some : adds hs (resolve st.tree hs) ≡ true → node_need st hs ≡ plus (ends_inside st.tree (resolve st.tree hs)) 1
  unfolding node_need
  need-some e = rw (e, node_need)

  new_is : new_blocks st hs ≡ length hs - blocks (resolve st.tree hs)
  unfolding new_blocks
  new_is = refl

  -- where nothing is cut
  module _ (none : cuts st hs ≡ false) where
    no_records : (s : ℕ) → cut_records st hs s ≡ 0
    unfolding cut_records
    no_records s = rw none

    no_entries : (s : ℕ) → cut_entries st hs s ≡ 0
    unfolding cut_entries
    no_entries s = rw none

    no_ids : (n : ℕ) → cut_ids st hs n ≡ 0
    unfolding cut_ids
    no_ids zero = refl
    no_ids (suc n) = rw (no_ids n, no_records n)

    records_fit : Sound st → any (stores_of st) records_over ≡ false
    records_fit h =
        any_none (stores_of st) records_over
        (λ s l. le-ltb store_records (records_of st s + cut_records st hs s) (omega (arith, h.counts.each s zero-le l, no_records s)))

    entries_fit : Sound st → any (stores_of st) entries_over ≡ false
    entries_fit h =
        any_none (stores_of st) entries_over
        (λ s l. le-ltb store_pins (entries_of st s + cut_entries st hs s) (omega (arith, h.counts.each s zero-le l, no_entries s)))

    ids_fit : Sound st → ltb max_stamp (next_id_of st + cut_ids st hs (stores_of st)) ≡ false
    ids_fit h =
        le-ltb max_stamp (next_id_of st + cut_ids st hs (stores_of st)) (omega (arith, h.counts.next_id, no_ids (stores_of st)))

  -- where a node is cut
  module _ (does : cuts st hs ≡ true) where
    records-read : (s : ℕ) → cut_records st hs s
        ≡ ranges_across (match_end (resolve st.tree hs)).node (match_end (resolve st.tree hs)).len
        (ranges st.ranges (store_records * s) (records_of st s))
    unfolding store_of
    records-read s = records-counted st hs does s

    entries-read : (s : ℕ) → cut_entries st hs s
        ≡ pins_across (match_end (resolve st.tree hs)).node (match_end (resolve st.tree hs)).len
        (pins st.pins (store_pins * s) (entries_of st s))
    unfolding store_of
    entries-read s = entries-counted st hs does s

    ids-read : (n : ℕ) → n ≤ max_stores → cut_ids st hs n ≡ ids_below (match_end (resolve st.tree hs)).node (match_end (resolve st.tree hs)).len st.ranges (records_in st.books) n
    unfolding cut_ids ids_below
    ids-read zero h = refl
    ids-read (suc n) h =
        ap₂ (λ a b. a + b) (ids-read n (omega arith))
        (records-read n
        ∙ ap (λ (i : ℕ). ranges_across (match_end (resolve st.tree hs)).node (match_end (resolve st.tree hs)).len (ranges st.ranges (store_records * n) i)) (sym (records-at st.books n (omega arith))))

    module _ (few : stores_of st ≤ max_stores) where
      records_test : any (stores_of st) records_over ≡ any (stores_of st) (overfull (match_end (resolve st.tree hs)).node (match_end (resolve st.tree hs)).len st.ranges (records_in st.books))
      records_test =
          any_same (stores_of st) records_over _
          (λ s l. ap (λ (n : ℕ). ltb store_records (records_of st s + n)) (records-read s)
          ∙ ap (λ (n : ℕ). ltb store_records (n + ranges_across (match_end (resolve st.tree hs)).node (match_end (resolve st.tree hs)).len (ranges st.ranges (store_records * s) n))) (sym (records-at st.books s (omega arith))))

      entries_test : any (stores_of st) entries_over ≡ any (stores_of st) (overpinned (match_end (resolve st.tree hs)).node (match_end (resolve st.tree hs)).len st.pins (entries_in st.books))
      entries_test =
          any_same (stores_of st) entries_over _
          (λ s l. ap (λ (n : ℕ). ltb store_pins (entries_of st s + n)) (entries-read s)
          ∙ ap (λ (n : ℕ). ltb store_pins (n + pins_across (match_end (resolve st.tree hs)).node (match_end (resolve st.tree hs)).len (pins st.pins (store_pins * s) n))) (sym (entries_at st.books s (omega arith))))

-- ---- the returns of the code: of a cut

module _ (j k : ℕ) (over : Bool) (records : List ℕ) (stores next : ℕ) (node start end : List ℕ) (r : Bool)
    (is : (c : Ranges) → c.node ≡ node → c.start ≡ start → c.end ≡ end → r ≡ any stores (overfull j k c records)) where
  -- what is told of every state with these columns
  abbrev pub Told : ℕ → Type 0
  Told v = (c : Ranges) → c.node ≡ node → c.start ≡ start → c.end ≡ end → v ≡ cut_refusal j k over c records stores next

  pub eight : r ≡ true → Told 8
  unfolding cut_refusal
  eight h c p q s = rw (← is c p q s, h)

  pub nine : r ≡ false → over ≡ true → Told 9
  unfolding cut_refusal
  nine h o c p q s = rw (← is c p q s, h, o)

  module _ (h : r ≡ false) (o : over ≡ false) (n : ℕ)
      (ids : (c : Ranges) → c.node ≡ node → c.start ≡ start → c.end ≡ end → n ≡ ids_below j k c records stores) where
    pub eleven : max_stamp < next + n → Told 11
    unfolding cut_refusal
    eleven l c p q s = rw (← is c p q s, h, o, ← ids c p q s, lt-ltb max_stamp (next + n) l)

    pub no_number : next + n ≤ max_stamp → Told 0
    unfolding cut_refusal
    no_number l c p q s = rw (← is c p q s, h, o, ← ids c p q s, le-ltb max_stamp (next + n) l)

-- ---- and of the whole

module _ {ls ns ss es bs : List ℕ} {o : Bool} {m : Match} {n : ℕ} (st : State) (hs : List ℕ) (w : Seen ls ns ss es bs o m n st hs) where
  path : List Seg
  path = resolve st.tree hs

  blocks_is : m.blocks ≡ blocks (resolve st.tree hs)
  blocks_is = ap (λ a. a.blocks) w.match

  node-is : m.node ≡ (match_end (resolve st.tree hs)).node
  node-is = ap (λ a. a.node) w.match

  len_is : m.len ≡ (match_end (resolve st.tree hs)).len
  len_is = ap (λ a. a.len) w.match

  pub long : max_numbers ≤ length bs
  long = rw w.books at w.sound.lent.books

  few-stores : stores_of st ≤ max_stores
  few-stores = w.sound.counts.stores

  -- what the test of a cut asks
  pub cut_asks : (rs : List ℕ) → rs ≡ records_in bs
      → (stores_in bs ≤ 8) × ((s : ℕ) → s < stores_in bs → at rs s ≤ 128) × (1024 ≤ length ns) × (1024 ≤ length ss) × (1024 ≤ length es) × (next_id_in bs ≤ max_stamp)
  cut_asks rs is =
      let h = w.sound in
      let e : st.books ≡ bs = w.books in
      let each : (s : ℕ) → s < stores_of st → at (records_in st.books) s ≤ 128 = λ s l. rw (records-at st.books s (omega (arith, few-stores))) (h.counts.each s zero-le l).records in
      (rw e at h.counts.stores, subst (λ (q : List ℕ). (s : ℕ) → s < stores_in bs → at q s ≤ 128) (sym is) (subst (λ (q : List ℕ). (s : ℕ) → s < stores_in q → at (records_in q) s ≤ 128) e each), rw w.node at h.lent.ranges.node, rw w.start at h.lent.ranges.start, rw w.end at h.lent.ranges.end, rw e at h.counts.next_id)

  no_cut : adds hs (resolve st.tree hs) && ends_inside st.tree (resolve st.tree hs) ≡ false → st.tree.nodes + node_need st hs ≤ max_nodes
      → st.tree.used + new_blocks st hs ≤ max_words → 0 ≡ insert_refusal st hs
  no_cut e a b =
      sym
      (first-is st hs
      ∙ rw (le-ltb max_nodes _ a, le-ltb max_words _ b, records_fit st hs e w.sound, entries_fit st hs e w.sound, ids_fit st hs e w.sound))

  pub none-added : n ≤ m.blocks → 0 ≡ insert_refusal st hs
  none-added h =
      let e : adds hs (resolve st.tree hs) ≡ false = le-ltb (blocks (resolve st.tree hs)) (length hs) (omega (arith, blocks_is, w.count)) in
      no_cut (rw e) (omega (arith, need-none st hs e, w.sound.counts.nodes)) (omega (arith, new_is st hs, blocks_is, w.count, w.sound.counts.used))

  module _ (more : m.blocks < n) where
    added : adds hs (resolve st.tree hs) ≡ true
    added = lt-ltb (blocks (resolve st.tree hs)) (length hs) (omega (arith, blocks_is, w.count))

    inside_is : (b : Bool) → b ≡ ltb m.len (at ls m.node) → ends_inside st.tree (resolve st.tree hs) ≡ b
    inside_is b e = rw (e, node-is, len_is, ← w.len)

    pub in_use_lem : m.node < st.tree.nodes
    in_use_lem = rw node-is (match-end st.tree (sound-parts st w.sound).tree hs added).in_use

    pub node_in : m.node < length ls
    node_in = rw (← w.len) (omega (arith, in_use_lem, w.sound.counts.nodes, w.sound.lent.tree.len))

    pub node-small : m.node < 256
    node-small = omega (arith, in_use_lem, w.sound.counts.nodes)

    needed : (b : Bool) → b ≡ ltb m.len (at ls m.node) → node_need st hs ≡ plus b 1
    needed b e = need-some st hs added ∙ ap (λ z. plus z 1) (inside_is b e)

    pub six : (b : Bool) (r : ℕ) → b ≡ ltb m.len (at ls m.node) → r ≡ plus b 1 → max_nodes < nodes_in bs + r → 6 ≡ insert_refusal st hs
    six b r e f l = sym (first-is st hs ∙ rw (lt-ltb max_nodes (st.tree.nodes + node_need st hs) (omega (arith, w.nodes, needed b e))))

    module _ (b : Bool) (r : ℕ) (e : b ≡ ltb m.len (at ls m.node)) (f : r ≡ plus b 1) (l : nodes_in bs + r ≤ max_nodes) where
      nodes_fit : st.tree.nodes + node_need st hs ≤ max_nodes
      nodes_fit = omega (arith, w.nodes, needed b e)

      pub seven : max_words < used_in bs + (n - m.blocks) → 7 ≡ insert_refusal st hs
      seven g =
          sym
          (first-is st hs
          ∙ rw (le-ltb max_nodes (st.tree.nodes + node_need st hs) nodes_fit, lt-ltb max_words (st.tree.used + new_blocks st hs) (omega (arith, new_is st hs, blocks_is, w.count, w.used))))

      module _ (g : used_in bs + (n - m.blocks) ≤ max_words) where
        words_fit : st.tree.used + new_blocks st hs ≤ max_words
        words_fit = omega (arith, new_is st hs, blocks_is, w.count, w.used)

        pub not_inside : at ls m.node ≤ m.len → 0 ≡ insert_refusal st hs
        not_inside q = no_cut (rw (added, inside_is b e, e ∙ le-ltb m.len (at ls m.node) q)) nodes_fit words_fit

        pub inside : m.len < at ls m.node → (rs : List ℕ) → rs ≡ records_in bs → (v : ℕ)
            → ((c : Ranges) → c.node ≡ ns → c.start ≡ ss → c.end ≡ es → v ≡ cut_refusal m.node m.len o c rs (stores_in bs) (next_id_in bs))
            → v ≡ insert_refusal st hs
        unfolding cut_refusal
        inside q rs are v h =
            let does : cuts st hs ≡ true = rw (added, inside_is b e, e ∙ lt-ltb m.len (at ls m.node) q) in
            let is : insert_refusal st hs
            ≡ cut_number (any (stores_of st) (overfull m.node m.len st.ranges (records_in st.books))) o (ltb max_stamp (next_id_of st + ids_below m.node m.len st.ranges (records_in st.books) (stores_of st))) =
            first-is st hs
            ∙ rw (le-ltb max_nodes (st.tree.nodes + node_need st hs) nodes_fit, le-ltb max_words (st.tree.used + new_blocks st hs) words_fit, records_test st hs does few-stores, entries_test st hs does few-stores, ids-read st hs does (stores_of st) few-stores, w.over, node-is, len_is) in
            h st.ranges w.node w.start w.end
            ∙ ap (λ (l : List ℕ). cut_refusal m.node m.len o st.ranges l (stores_in bs) (next_id_in bs)) are
            ∙ ap (λ (l : List ℕ). cut_refusal m.node m.len o st.ranges (records_in l) (stores_in l) (next_id_in l)) (sym w.books) ∙ sym is

-- ---- with 9's test

module _ {ls ns ss es pns pss pes bs : List ℕ} {m : Match} {n : ℕ} (st : State) (hs : List ℕ) (w : Shown ls ns ss es pns pss pes bs m n st hs)
    (entries : List ℕ) (are : entries ≡ entries_in bs) where
  pub with_over : (o : Bool)
      → ((c : Pins) → c.node ≡ pns → c.start ≡ pss → c.end ≡ pes → o ≡ any (stores_in bs) (overpinned m.node m.len c entries))
      → Seen ls ns ss es bs o m n st hs
  with_over o h =
      let q : any (stores_of st) (overpinned m.node m.len st.pins (entries_in st.books)) ≡ o =
      ap (λ (l : List ℕ). any (stores_in l) (overpinned m.node m.len st.pins (entries_in l))) w.seen.books
      ∙ ap (λ (l : List ℕ). any (stores_in bs) (overpinned m.node m.len st.pins l)) (sym are)
      ∙ sym (h st.pins w.pin_node w.pin_start w.pin_end) in
      subst (λ (z : Bool). Seen ls ns ss es bs z m n st hs) q w.seen
