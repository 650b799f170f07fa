-- What a node that is put makes of the map: a node of the tree, the header node with other numbers, and a bit set or cleared.
use Rattle.std.proofs.Common.{◌≡◌, ◌≢◌, ℕ, zero, suc, ◌+◌, ◌-◌, ◌*◌, ◌/◌, ◌≤◌, ◌<◌, Bool, true, false, cond, ◌==◌, ◌||◌, List, [], ◌∷◌, length, get_or, drop, inl, inr, refl, sym, ◌∙◌, ap, subst, arith, ⊎_elim}
use Rattle.std.specs.List.{list_any, count_by, range_with_len}
use Rattle.std.proofs.Math.Path.{fun_ext}
use Rattle.std.proofs.lemmas.Bool.{cases_eq, eq-eqb, true≢false, or_parts, or_right}
use Rattle.std.proofs.lemmas.List.{ext_get_or, get_or-drop, length-drop}
use Rattle.std.proofs.lemmas.Option.{slice_get_within, get_or_from_slice_get}
use Rattle.flag_rows.specs.Bits.{bit_of}
use Rattle.flag_rows.proofs.ByteLaws.{bit_alike}
use Rattle.hx_bytes.specs.Field.{big_at}
use Rattle.sector_disk.specs.Space.{Space}
use Rattle.btree_node.specs.Node.{IsNode, record_count, offset}
use Rattle.btree_node.specs.TreeFile.{TreeHead, tree_head, SetsShape, SetsBit}
use Rattle.btree_node.specs.declared.store.TreeShape.{TreeShape}
use Rattle.btree_node.proofs.Items.{offsets_rise}
use Rattle.btree_node.proofs.Places.{same_two, same_four}
use Rattle.btree_file.specs.Frame.{SameForm}
use Rattle.btree_file.specs.Place.{AreApart, sectors_at}
use Rattle.btree_file.specs.Map.{used_in, is_reserved, IsMapRecord}
use Rattle.btree_file.specs.Putting.{PutsNode}
use Rattle.btree_file.specs.Spots.{IsSpot}
use Rattle.btree_file.specs.State.{nodes_on, HasMap}
use Rattle.btree_file.specs.declared.marking.Spot.{Spot}
use Rattle.btree_file.specs.declared.tree.Stretch.{Stretch}
use Rattle.btree_file.proofs.Grammar.{SameGrammar, grammar_equal, grammar_kept, header_kept, stretches_kept}
use Rattle.btree_file.proofs.MapLaws.{ChangesBit, used_at, set_used}
use Rattle.btree_file.proofs.NodeLaws.{node_put, node_kept, used_same}
use Rattle.btree_file.proofs.RoomLaws.{count_less}

-- a stretch of the map stands in a node of the map
pub any_at : (map : List Stretch) (k : ℕ) (d : Stretch) → k < length map → list_any (λ stretch. stretch.node == (get_or map k d).node) map ≡ true
any_at [] k d low = absurd (omega (arith, low))
any_at (stretch ∷ map) zero d low = ap (λ t. t || list_any (λ other. other.node == stretch.node) map) (eq-eqb stretch.node stretch.node refl)
any_at (stretch ∷ map) (suc k) d low = or_right (stretch.node == (get_or map k d).node) (list_any (λ other. other.node == (get_or map k d).node) map) (any_at map k d (omega (arith, low)))

-- which is none of the tree
pub map_node : (map : List Stretch) (n m : ℕ) → is_reserved map n ≡ false → list_any (λ stretch. stretch.node == m) map ≡ true → m ≢ n
map_node map n m free any = λ e. true≢false (sym any ∙ ap (λ k. list_any (λ stretch. stretch.node == k) map) e ∙ (or_parts (n == 0) (list_any (λ stretch. stretch.node == n) map) free).1)

pub not_header : (map : List Stretch) (n : ℕ) → is_reserved map n ≡ false → 0 ≢ n
not_header map n free = λ e. true≢false (sym (subst (λ k. is_reserved map k ≡ true) e refl) ∙ free)

-- ---- a node of the tree

module _ (sectors : List ℕ) (size total free : ℕ) (map : List Stretch) (header : List ℕ) (old new : Space) (n : ℕ) (bytes : List ℕ) (apart : AreApart sectors)
    (puts : PutsNode (sectors_at sectors (size / 512) n) bytes old new) (unreserved : is_reserved map n ≡ false)
  where
    same_node : (m : ℕ) → m ≢ n → nodes_on sectors size new.content m ≡ nodes_on sectors size old.content m
    same_node m other = node_kept sectors (size / 512) n m bytes old new puts apart other

    pub saved_used : (m : ℕ) → used_in (nodes_on sectors size new.content) map m ≡ used_in (nodes_on sectors size old.content) map m
    saved_used m = used_same (nodes_on sectors size old.content) (nodes_on sectors size new.content) map m (λ k any. same_node k (map_node map n k unreserved any))

    pub saved_map : HasMap sectors size total free map header old.content → HasMap sectors size total free map header new.content
    saved_map was = record {
      some = was.some;
      header_is = same_node 0 (not_header map n unreserved) ∙ was.header_is;
      header_node = was.header_node;
      says_size = was.says_size;
      says_total = was.says_total;
      stretches = stretches_kept (nodes_on sectors size old.content) (nodes_on sectors size new.content) size map
          (λ k d low. grammar_equal (nodes_on sectors size old.content (get_or map k d).node) (nodes_on sectors size new.content (get_or map k d).node) (same_node (get_or map k d).node (map_node map n (get_or map k d).node unreserved (any_at map k d low)))) was.stretches;
      bits = was.bits;
      counted = ap (λ (u : ℕ → Bool). free + count_by u (range_with_len 0 total)) (fun_ext saved_used) ∙ was.counted;
      reserved = λ m low is. saved_used m ∙ was.reserved m low is;
      behind = λ m high low. saved_used m ∙ was.behind m high low;
    }

-- ---- the header node

-- what a header record keeps of its form
pub form_kept : (shape : TreeShape) (a b : List ℕ) → SetsShape shape a b → SameForm (tree_head a) (tree_head b)
form_kept shape a b sets = record {
  max_key = same_two a b 34 34 (sets.others 34 (inr (inl (omega arith, omega arith)))) (sets.others 35 (inr (inl (omega arith, omega arith))));
  compare = sets.others 51 (inr (inr (omega arith)));
  attributes = same_four a b 52 (λ k low. sets.others (52 + k) (inr (inr (omega arith))));
}

-- what stands behind the first sector of the header node is the same
pub shaped_rest : (shape : TreeShape) (a b : List ℕ) → SetsShape shape a b → drop 512 a ≡ drop 512 b
shaped_rest shape a b sets = ext_get_or 0 (drop 512 a) (drop 512 b) (omega (arith, length-drop 512 a, length-drop 512 b, sets.size))
    (λ k low. get_or-drop 512 a k 0 ∙ sym (sets.others (512 + k) (inr (inr (omega arith)))) ∙ sym (get_or-drop 512 b k 0))

module _ (sectors : List ℕ) (size total free : ℕ) (map : List Stretch) (header after : List ℕ) (shape : TreeShape) (old new : Space) (large : 512 ≤ size) (long : length header ≡ size)
    (size_is : shape.node_size ≡ size) (sets : SetsShape shape header after)
    (others : (m : ℕ) → m ≢ 0 → nodes_on sectors size new.content m ≡ nodes_on sectors size old.content m) (node_zero : nodes_on sectors size new.content 0 ≡ after)
    (low : (k : ℕ) (d : Stretch) → k < length map → (get_or map k d).node ≡ 0 → 248 ≤ (get_or map k d).at)
    (was : HasMap sectors size total free map header old.content)
  where
    grammar_zero : SameGrammar header after
    grammar_zero = grammar_kept header after 14 44 sets.size (omega arith) (omega (arith, was.header_node.1, long, large)) (omega arith)
        (λ k where_. sets.others k (⊎_elim (λ before. inl before) (λ behind. inr (inr behind)) where_))

    pub shaped_bytes : (m k : ℕ) → (m ≡ 0 → 44 ≤ k) → get_or (nodes_on sectors size new.content m) k 0 ≡ get_or (nodes_on sectors size old.content m) k 0
    shaped_bytes m k high = ⊎_elim
        (λ (e : m ≡ 0).
        ap (λ (i : ℕ). get_or (nodes_on sectors size new.content i) k 0) e ∙ ap (λ (l : List ℕ). get_or l k 0) node_zero ∙ sets.others k (inr (inr (high e)))
        ∙ ap (λ (l : List ℕ). get_or l k 0) (sym was.header_is) ∙ ap (λ (i : ℕ). get_or (nodes_on sectors size old.content i) k 0) (sym e))
        (λ (other : m ≢ 0). ap (λ (l : List ℕ). get_or l k 0) (others m other))
        (cases_eq m 0)

    shaped_bits : (these : List Stretch) (n : ℕ) → ((k : ℕ) (d : Stretch) → k < length these → (get_or these k d).node ≡ 0 → 248 ≤ (get_or these k d).at) → used_in (nodes_on sectors size new.content) these n ≡ used_in (nodes_on sectors size old.content) these n
    shaped_bits [] n far = refl
    shaped_bits (stretch ∷ rest) n far =
        let first : bit_of (nodes_on sectors size new.content stretch.node) (8 * stretch.at + n) ≡ bit_of (nodes_on sectors size old.content stretch.node) (8 * stretch.at + n) =
        bit_alike (nodes_on sectors size new.content stretch.node) (nodes_on sectors size old.content stretch.node) (8 * stretch.at + n) (8 * stretch.at + n)
        (shaped_bytes stretch.node ((8 * stretch.at + n) / 8) (λ e. omega (arith, far 0 stretch (omega arith) e))) refl in
        let more = shaped_bits rest (n - 8 * stretch.len) (λ k d low e. far (suc k) d (omega (arith, low)) e) in
        rw (first, more) refl

    pub shaped_used : (n : ℕ) → used_in (nodes_on sectors size new.content) map n ≡ used_in (nodes_on sectors size old.content) map n
    shaped_used n = shaped_bits map n low

    pub shaped_grammar : (m : ℕ) → SameGrammar (nodes_on sectors size old.content m) (nodes_on sectors size new.content m)
    shaped_grammar m = ⊎_elim
        (λ (e : m ≡ 0). subst (λ i. SameGrammar (nodes_on sectors size old.content i) (nodes_on sectors size new.content i)) (sym e) (subst (λ (l : List ℕ). SameGrammar l (nodes_on sectors size new.content 0)) (sym was.header_is) (subst (λ (l : List ℕ). SameGrammar header l) (sym node_zero) grammar_zero)))
        (λ (other : m ≢ 0). grammar_equal (nodes_on sectors size old.content m) (nodes_on sectors size new.content m) (others m other))
        (cases_eq m 0)

    pub shaped_map : shape.total ≡ total → HasMap sectors size total free map after new.content
    shaped_map total_is = record {
      some = was.some;
      header_is = node_zero;
      header_node = header_kept header after grammar_zero was.header_node;
      says_size = ap (λ (s : TreeShape). s.node_size) sets.numbers ∙ size_is;
      says_total = ap (λ (s : TreeShape). s.total) sets.numbers ∙ total_is;
      stretches = stretches_kept (nodes_on sectors size old.content) (nodes_on sectors size new.content) size map (λ k d inside. shaped_grammar (get_or map k d).node) was.stretches;
      bits = was.bits;
      counted = ap (λ (u : ℕ → Bool). free + count_by u (range_with_len 0 total)) (fun_ext shaped_used) ∙ was.counted;
      reserved = λ m low is. shaped_used m ∙ was.reserved m low is;
      behind = λ m high low. shaped_used m ∙ was.behind m high low;
    }

-- ---- a bit of the map

-- the bytes of a stretch lie between a node's descriptor and its offsets
module _ (node : List ℕ) (stretch : Stretch) (size : ℕ) (large : 512 ≤ size) (long : length node ≡ size) where
  pub header_fits : stretch ≡ (record { node = 0; at = 248; len = size - 256 }) → record_count node ≡ 3 → (14 ≤ stretch.at) × (stretch.at + stretch.len + 2 * (record_count node + 1) ≤ length node)
  header_fits is count =
      let at : stretch.at ≡ 248 = ap (λ (s : Stretch). s.at) is in
      let len : stretch.len ≡ size - 256 = ap (λ (s : Stretch). s.len) is in
      (omega (arith, at), omega (arith, at, len, count, long, large))

  pub record_fits : IsMapRecord node stretch → (14 ≤ stretch.at) × (stretch.at + stretch.len + 2 * (record_count node + 1) ≤ length node)
  record_fits is =
      let cut : IsNode node = is.grammar.well_formed in
      let rise : offset node 1 ≤ offset node (record_count node) = offsets_rise node cut 1 (record_count node) (omega (arith, is.some)) (omega arith) in
      (omega (arith, is.from, cut.first), omega (arith, is.to, rise, cut.inside))

bit_place : (at bit len : ℕ) → bit < 8 * len → (at ≤ (8 * at + bit) / 8) × ((8 * at + bit) / 8 < at + len)
bit_place at bit len low = (omega arith, omega (arith, low))

module _ (sectors : List ℕ) (size total : ℕ) (map : List Stretch) (header after page : List ℕ) (old new : Space) (spot : Spot) (value : Bool) (apart : AreApart sectors) (large : 512 ≤ size) (whole_size : size / 512 * 512 ≡ size)
    (places : (i j : ℕ) (d : Stretch) → i < length map → j < length map → (get_or map i d).node ≡ (get_or map j d).node → i ≡ j)
    (is : IsSpot map total spot) (whole : (spot.stretch.node + 1) * (size / 512) ≤ length sectors)
    (long : length (nodes_on sectors size old.content spot.stretch.node) ≡ size)
    (sets : SetsBit (8 * spot.stretch.at + spot.bit) value (nodes_on sectors size old.content spot.stretch.node) page)
    (puts : PutsNode (sectors_at sectors (size / 512) spot.stretch.node) page old new)
  where
    inside_map : spot.place < length map
    inside_map = slice_get_within map spot.place spot.stretch is.stretch

    stretch_is : get_or map spot.place spot.stretch ≡ spot.stretch
    stretch_is = get_or_from_slice_get map spot.place spot.stretch spot.stretch is.stretch

    away : (m : ℕ) → m ≢ spot.stretch.node → nodes_on sectors size new.content m ≡ nodes_on sectors size old.content m
    away m other = node_kept sectors (size / 512) spot.stretch.node m page old new puts apart other

    there : nodes_on sectors size new.content spot.stretch.node ≡ page
    there = node_put sectors (size / 512) spot.stretch.node page old new puts whole (sets.size ∙ long ∙ sym whole_size)

    changes : ChangesBit (nodes_on sectors size old.content) (nodes_on sectors size new.content) spot.stretch spot.bit value
    changes = record {
      here = ap (λ (l : List ℕ). bit_of l (8 * spot.stretch.at + spot.bit)) there ∙ sets.here;
      others = λ j other low. ap (λ (l : List ℕ). bit_of l (8 * spot.stretch.at + j)) there ∙ sets.others (8 * spot.stretch.at + j) (λ e. other (omega (arith, e)));
      nodes = away;
    }

    changes_at : ChangesBit (nodes_on sectors size old.content) (nodes_on sectors size new.content) (get_or map spot.place spot.stretch) spot.bit value
    changes_at = subst (λ (s : Stretch). ChangesBit (nodes_on sectors size old.content) (nodes_on sectors size new.content) s spot.bit value) (sym stretch_is) changes

    bit_at : spot.bit < 8 * (get_or map spot.place spot.stretch).len
    bit_at = subst (λ (s : Stretch). spot.bit < 8 * s.len) (sym stretch_is) is.bit

    pub spot_was : used_in (nodes_on sectors size old.content) map spot.node ≡ bit_of (nodes_on sectors size old.content spot.stretch.node) (8 * spot.stretch.at + spot.bit)
    spot_was = ap (used_in (nodes_on sectors size old.content) map) is.node ∙ used_at (nodes_on sectors size old.content) map spot.place spot.bit spot.stretch inside_map bit_at
        ∙ ap (λ (s : Stretch). bit_of (nodes_on sectors size old.content s.node) (8 * s.at + spot.bit)) stretch_is

    pub marked_here : used_in (nodes_on sectors size new.content) map spot.node ≡ value
    marked_here = ap (used_in (nodes_on sectors size new.content) map) is.node ∙ used_at (nodes_on sectors size new.content) map spot.place spot.bit spot.stretch inside_map bit_at ∙ changes_at.here

    pub marked_others : (m : ℕ) → m ≢ spot.node → used_in (nodes_on sectors size new.content) map m ≡ used_in (nodes_on sectors size old.content) map m
    marked_others m other = set_used (nodes_on sectors size old.content) (nodes_on sectors size new.content) map spot.place spot.bit spot.stretch value inside_map bit_at changes_at
        (λ j low far e. far (places j spot.place spot.stretch low inside_map e)) m (λ e. other (e ∙ sym is.node))

    pub marked_nodes : (m : ℕ) → is_reserved map m ≡ false → nodes_on sectors size new.content m ≡ nodes_on sectors size old.content m
    marked_nodes m unreserved = away m (λ e. true≢false (sym (reserved_at m e) ∙ unreserved))
      where
        reserved_at : (m : ℕ) → m ≡ spot.stretch.node → is_reserved map m ≡ true
        reserved_at m e = or_right (m == 0) (list_any (λ stretch. stretch.node == m) map)
            (ap (λ (k : ℕ). list_any (λ stretch. stretch.node == k) map) (e ∙ ap (λ (s : Stretch). s.node) (sym stretch_is)) ∙ any_at map spot.place spot.stretch inside_map)

    module _ (free free_after : ℕ) (was : HasMap sectors size total free map header old.content) (unreserved : is_reserved map spot.node ≡ false)
        (header_is : spot.stretch.node ≡ 0 → after ≡ page) (header_kept_is : spot.stretch.node ≢ 0 → after ≡ header)
        (counts : free_after + count_by (used_in (nodes_on sectors size new.content) map) (range_with_len 0 total) ≡ total)
      where
        fits : (14 ≤ spot.stretch.at) × (spot.stretch.at + spot.stretch.len + 2 * (record_count (nodes_on sectors size old.content spot.stretch.node) + 1) ≤ length (nodes_on sectors size old.content spot.stretch.node))
        fits = ⊎_elim
            (λ (front : spot.place ≡ 0).
            let first : spot.stretch ≡ (record { node = 0; at = 248; len = size - 256 }) = sym stretch_is ∙ ap (λ k. get_or map k spot.stretch) front ∙ was.stretches.first spot.stretch in
            header_fits (nodes_on sectors size old.content spot.stretch.node) spot.stretch size large long first
            (ap (λ (s : Stretch). record_count (nodes_on sectors size old.content s.node)) first ∙ ap record_count was.header_is ∙ was.header_node.1))
            (λ (later : spot.place ≢ 0).
            record_fits (nodes_on sectors size old.content spot.stretch.node) spot.stretch size large long
            (subst (λ (s : Stretch). IsMapRecord (nodes_on sectors size old.content s.node) s) stretch_is (was.stretches.each spot.place spot.stretch (omega (arith, later)) inside_map)))
            (cases_eq spot.place 0)

        page_grammar : SameGrammar (nodes_on sectors size old.content spot.stretch.node) page
        page_grammar =
            let place = bit_place spot.stretch.at spot.bit spot.stretch.len is.bit in
            grammar_kept (nodes_on sectors size old.content spot.stretch.node) page spot.stretch.at (spot.stretch.at + spot.stretch.len) sets.size fits.0 fits.1 (omega arith)
            (λ k where_. sets.bytes k (λ e. ⊎_elim (λ (before : k < spot.stretch.at). absurd (omega (arith, e, before, place.0))) (λ (behind : spot.stretch.at + spot.stretch.len ≤ k). absurd (omega (arith, e, behind, place.1))) where_))

        marked_grammar : (m : ℕ) → SameGrammar (nodes_on sectors size old.content m) (nodes_on sectors size new.content m)
        marked_grammar m = ⊎_elim
            (λ (e : m ≡ spot.stretch.node). subst (λ i. SameGrammar (nodes_on sectors size old.content i) (nodes_on sectors size new.content i)) (sym e) (subst (λ (l : List ℕ). SameGrammar (nodes_on sectors size old.content spot.stretch.node) l) (sym there) page_grammar))
            (λ (other : m ≢ spot.stretch.node). grammar_equal (nodes_on sectors size old.content m) (nodes_on sectors size new.content m) (away m other))
            (cases_eq m spot.stretch.node)

        header_then : nodes_on sectors size new.content 0 ≡ after
        header_then = ⊎_elim
            (λ (e : spot.stretch.node ≡ 0). ap (nodes_on sectors size new.content) (sym e) ∙ there ∙ sym (header_is e))
            (λ (other : spot.stretch.node ≢ 0). away 0 (λ e. other (sym e)) ∙ was.header_is ∙ sym (header_kept_is other))
            (cases_eq spot.stretch.node 0)

        -- the header record stays
        header_bytes : (k : ℕ) → k < 248 → get_or after k 0 ≡ get_or header k 0
        header_bytes k low = ⊎_elim
            (λ (e : spot.stretch.node ≡ 0).
            let front : spot.place ≡ 0 = places spot.place 0 spot.stretch inside_map was.stretches.some (ap (λ (s : Stretch). s.node) stretch_is ∙ e ∙ sym (ap (λ (s : Stretch). s.node) (was.stretches.first spot.stretch))) in
            let at : spot.stretch.at ≡ 248 = ap (λ (s : Stretch). s.at) (sym stretch_is ∙ ap (λ k. get_or map k spot.stretch) front ∙ was.stretches.first spot.stretch) in
            ap (λ (l : List ℕ). get_or l k 0) (header_is e) ∙ sets.bytes k (λ is_at. absurd (omega (arith, is_at, at, low)))
            ∙ ap (λ (i : ℕ). get_or (nodes_on sectors size old.content i) k 0) e ∙ ap (λ (l : List ℕ). get_or l k 0) was.header_is)
            (λ (other : spot.stretch.node ≢ 0). ap (λ (l : List ℕ). get_or l k 0) (header_kept_is other))
            (cases_eq spot.stretch.node 0)

        pub marked_head : tree_head after ≡ tree_head header
        marked_head =
            let two : (at : ℕ) → at + 1 < 248 → big_at 2 after at ≡ big_at 2 header at = λ at low. same_two header after at at (header_bytes at (omega (arith, low))) (header_bytes (at + 1) low) in
            let four : (at : ℕ) → at + 4 ≤ 248 → big_at 4 after at ≡ big_at 4 header at = λ at low. same_four header after at (λ k few. header_bytes (at + k) (omega (arith, low, few))) in
            rw (two 14 (omega arith), four 16 (omega arith), four 20 (omega arith), four 24 (omega arith), four 28 (omega arith), two 32 (omega arith), two 34 (omega arith), four 36 (omega arith), four 40 (omega arith), header_bytes 51 (omega arith), four 52 (omega arith)) refl

        pub marked_map : HasMap sectors size total free_after map after new.content
        marked_map = record {
          some = was.some;
          header_is = header_then;
          header_node = header_kept header after (subst (λ (l : List ℕ). SameGrammar l after) was.header_is (subst (λ (l : List ℕ). SameGrammar (nodes_on sectors size old.content 0) l) header_then (marked_grammar 0))) was.header_node;
          says_size = ap (λ (h : TreeHead). h.node_size) marked_head ∙ was.says_size;
          says_total = ap (λ (h : TreeHead). h.total) marked_head ∙ was.says_total;
          stretches = stretches_kept (nodes_on sectors size old.content) (nodes_on sectors size new.content) size map (λ k d low. marked_grammar (get_or map k d).node) was.stretches;
          bits = was.bits;
          counted = counts;
          reserved = λ m low reserved_m. marked_others m (λ e. true≢false (sym reserved_m ∙ ap (is_reserved map) e ∙ unreserved)) ∙ was.reserved m low reserved_m;
          behind = λ m high low. marked_others m (λ e. absurd (omega (arith, high, e, is.inside))) ∙ was.behind m high low;
        }

-- one node more has its bit, or one less
pub count_set : (before after : ℕ → Bool) (total m : ℕ) → m < total → before m ≡ false → after m ≡ true → ((k : ℕ) → k ≢ m → after k ≡ before k)
    → count_by before (range_with_len 0 total) + 1 ≡ count_by after (range_with_len 0 total)
count_set before after total m inside was is same =
    let one : ◌≡◌ {A = ℕ} (cond (after m) 1 0) 1 = rw is refl in
    omega (arith, one, count_less after before 0 total m (omega arith) (omega (arith, inside)) was (λ k other. sym (same k other)))

pub count_cleared : (before after : ℕ → Bool) (total m : ℕ) → m < total → before m ≡ true → after m ≡ false → ((k : ℕ) → k ≢ m → after k ≡ before k)
    → count_by after (range_with_len 0 total) + 1 ≡ count_by before (range_with_len 0 total)
count_cleared before after total m inside was is same =
    let one : ◌≡◌ {A = ℕ} (cond (before m) 1 0) 1 = rw was refl in
    omega (arith, one, count_less before after 0 total m (omega arith) (omega (arith, inside)) is same)
