-- What three puts make of a content, where a map node is added: the last map node, which names the new one, the new one, and the header node.
use Rattle.std.proofs.Common.{◌≡◌, ◌≢◌, ◌⊎◌, ℕ, ◌+◌, ◌-◌, ◌*◌, ◌/◌, ◌≤◌, ◌<◌, true, false, List, [], ◌∷◌, ◌++◌, length, get_or, inl, inr, refl, sym, ◌∙◌, ap, subst, arith, ⊎_elim, length-append}
use Rattle.std.specs.List.{All}
use Rattle.std.proofs.Math.Nat.{mul-le-mul_right}
use Rattle.std.proofs.Math.Seq.{get_or-append_seam}
use Rattle.std.proofs.lemmas.Bool.{cases_eq}
use Rattle.std.proofs.lemmas.List.{get_or_default}
use Rattle.sector_disk.specs.Space.{Space}
use Rattle.flag_rows.specs.Bits.{bit_of}
use Rattle.btree_node.specs.Node.{IsNode, SetsLinks, next_of}
use Rattle.btree_node.specs.TreeFile.{SetsShape, tree_head}
use Rattle.btree_node.specs.declared.store.TreeShape.{TreeShape}
use Rattle.btree_node.proofs.Places.{same_two, same_four}
use Rattle.btree_file.specs.Frame.{SameForm}
use Rattle.btree_file.specs.Growth.{IsNewMapNode, last_node}
use Rattle.btree_file.specs.Map.{used_in, bits_of, is_reserved, IsMapRecord}
use Rattle.btree_file.specs.Place.{AreApart, sectors_at}
use Rattle.btree_file.specs.Putting.{PutsNode}
use Rattle.btree_file.specs.State.{nodes_on, HasMap}
use Rattle.btree_file.specs.declared.tree.Stretch.{Stretch}
use Rattle.btree_file.proofs.Changing.{any_at, map_node, not_header}
use Rattle.btree_file.proofs.Grammar.{SameGrammar, grammar_kept}
use Rattle.btree_file.proofs.MapNodes.{SameRecords, AddsMapNode, map_node_added, added_used, added_reserved, new_reserved}
use Rattle.btree_file.proofs.NewNodes.{links_byte, links_records}
use Rattle.btree_file.proofs.NodeLaws.{node_put, node_kept}

-- ---- records that stay

of_grammar : (a b : List ℕ) → SameGrammar a b → SameRecords a b
of_grammar a b same = record { size = same.size; kind = same.kind; height = same.height; count = same.count; offsets = same.offsets }

records_none : (a : List ℕ) → SameRecords a a
records_none a = record { size = refl; kind = refl; height = refl; count = refl; offsets = λ i low. refl }

records_both : (a b c : List ℕ) → SameRecords a b → SameRecords b c → SameRecords a c
records_both a b c p q = record {
  size = q.size ∙ p.size;
  kind = q.kind ∙ p.kind;
  height = q.height ∙ p.height;
  count = q.count ∙ p.count;
  offsets = λ i low. q.offsets i (omega (arith, low, p.count)) ∙ p.offsets i low;
}

pub form_bytes : (a b : List ℕ) → ((k : ℕ) → ((34 ≤ k) × (k < 36)) ⊎ (44 ≤ k) → get_or b k 0 ≡ get_or a k 0) → SameForm (tree_head a) (tree_head b)
form_bytes a b same = record {
  max_key = same_two a b 34 34 (same 34 (inl (omega arith, omega arith))) (same 35 (inl (omega arith, omega arith)));
  compare = same 51 (inr (omega arith));
  attributes = same_four a b 52 (λ k low. same (52 + k) (inr (omega arith)));
}

pub last_pushed : (map : List Stretch) (s : Stretch) → last_node (map ++ s ∷ []) ≡ s.node
last_pushed map s =
    ap (λ k. (get_or (map ++ s ∷ []) k (record { node = 0; at = 0; len = 0 })).node) {x = length (map ++ s ∷ []) - 1} {y = length map} (omega (arith, length-append map (s ∷ [])))
    ∙ ap (λ (t : Stretch). t.node) (get_or-append_seam map s [] (record { node = 0; at = 0; len = 0 }))

-- ---- the three puts

-- what they make of it
pub record IsAdded (sectors : List ℕ) (size total free : ℕ) (map : List Stretch) (header after page : List ℕ) (s : Stretch) (old new : List (List ℕ)) : Type 0 where
  pub has_map : HasMap sectors size (total + 1) free (map ++ s ∷ []) after new
  pub added_node : nodes_on sectors size new total ≡ page
  pub form : SameForm (tree_head header) (tree_head after)
  pub nodes : (n : ℕ) → n < total → is_reserved map n ≡ false → nodes_on sectors size new n ≡ nodes_on sectors size old n
  pub used : (n : ℕ) → n < total → used_in (nodes_on sectors size new) (map ++ s ∷ []) n ≡ used_in (nodes_on sectors size old) map n
  pub reserved : (n : ℕ) → n < total → is_reserved (map ++ s ∷ []) n ≡ is_reserved map n
  pub fresh : (n : ℕ) → total ≤ n → n < total + 1 → used_in (nodes_on sectors size new) (map ++ s ∷ []) n ≡ is_reserved (map ++ s ∷ []) n

module _ (sectors : List ℕ) (size total free : ℕ) (map : List Stretch) (header page0 page1 page2 header1 header2 : List ℕ) (s : Stretch) (shape : TreeShape) (back last : ℕ) (a b c d : Space)
    (apart : AreApart sectors) (large : 512 ≤ size) (whole_size : size / 512 * 512 ≡ size) (whole : (total + 1) * (size / 512) ≤ length sectors)
    (inside : All (λ t. t.node < total) map)
    (places : (i j : ℕ) (e : Stretch) → i < length map → j < length map → (get_or map i e).node ≡ (get_or map j e).node → i ≡ j)
    (low : (k : ℕ) (e : Stretch) → k < length map → (get_or map k e).node ≡ 0 → 248 ≤ (get_or map k e).at)
    (some : 0 < length map) (last_is : last ≡ last_node map) (full : total ≡ bits_of map) (was : HasMap sectors size total free map header a.content)
    (page_was : page0 ≡ nodes_on sectors size a.content last) (links : SetsLinks total back page0 page1)
    (header_page : last ≡ 0 → header1 ≡ page1) (header_same : last ≢ 0 → header1 ≡ header)
    (new_node : IsNewMapNode page2 s) (s_node : s.node ≡ total)
    (sets : SetsShape shape header1 header2) (size_is : shape.node_size ≡ size) (total_is : shape.total ≡ total + 1)
    (long : length header ≡ size) (page_long : length page0 ≡ size) (new_long : length page2 ≡ size)
    (puts1 : PutsNode (sectors_at sectors (size / 512) last) page1 a b) (puts2 : PutsNode (sectors_at sectors (size / 512) total) page2 b c) (puts3 : PutsNode (sectors_at sectors (size / 512) 0) header2 c d)
  where
    last_low : last < total
    last_low = omega (arith, last_is, inside (length map - 1) (record { node = 0; at = 0; len = 0 }) (omega (arith, some)))

    total_some : 0 < total
    total_some = was.some

    room_for : (n : ℕ) → n < total + 1 → (n + 1) * (size / 512) ≤ length sectors
    room_for n less = let more = mul-le-mul_right {m = n + 1} {n = total + 1} (size / 512) (omega (arith, less)) in omega (arith, more, whole)

    header1_long : length header1 ≡ size
    header1_long = ⊎_elim (λ (e : last ≡ 0). ap (λ (l : List ℕ). length l) (header_page e) ∙ links.size ∙ page_long) (λ (o : last ≢ 0). ap (λ (l : List ℕ). length l) (header_same o) ∙ long) (cases_eq last 0)

    at_zero : nodes_on sectors size d.content 0 ≡ header2
    at_zero = node_put sectors (size / 512) 0 header2 c d puts3 (room_for 0 (omega arith)) (sets.size ∙ header1_long ∙ sym whole_size)

    kept3 : (m : ℕ) → m ≢ 0 → nodes_on sectors size d.content m ≡ nodes_on sectors size c.content m
    kept3 m other = node_kept sectors (size / 512) 0 m header2 c d puts3 apart other

    kept2 : (m : ℕ) → m ≢ total → nodes_on sectors size c.content m ≡ nodes_on sectors size b.content m
    kept2 m other = node_kept sectors (size / 512) total m page2 b c puts2 apart other

    kept1 : (m : ℕ) → m ≢ last → nodes_on sectors size b.content m ≡ nodes_on sectors size a.content m
    kept1 m other = node_kept sectors (size / 512) last m page1 a b puts1 apart other

    at_new : nodes_on sectors size d.content total ≡ page2
    at_new = kept3 total (λ e. omega (arith, e, total_some)) ∙ node_put sectors (size / 512) total page2 b c puts2 (room_for total (omega arith)) (new_long ∙ sym whole_size)

    at_last : last ≢ 0 → nodes_on sectors size d.content last ≡ page1
    at_last other = kept3 last other ∙ kept2 last (λ e. omega (arith, e, last_low)) ∙ node_put sectors (size / 512) last page1 a b puts1 (room_for last (omega (arith, last_low))) (links.size ∙ page_long ∙ sym whole_size)

    elsewhere : (m : ℕ) → m ≢ 0 → m ≢ last → m ≢ total → nodes_on sectors size d.content m ≡ nodes_on sectors size a.content m
    elsewhere m header_no last_no new_no = kept3 m header_no ∙ kept2 m new_no ∙ kept1 m last_no

    -- the header node
    page_header : last ≡ 0 → page0 ≡ header
    page_header e = page_was ∙ ap (λ m. nodes_on sectors size a.content m) e ∙ was.header_is

    header_node : IsNode header
    header_node = was.header_node.0.well_formed

    to_header1 : SameRecords header header1
    to_header1 = ⊎_elim
        (λ (e : last ≡ 0). subst (λ l. SameRecords header l) (sym (header_page e)) (subst (λ l. SameRecords l page1) (page_header e) (links_records total back page0 page1 links (subst IsNode (sym (page_header e)) header_node))))
        (λ (o : last ≢ 0). subst (λ l. SameRecords header l) (sym (header_same o)) (records_none header))
        (cases_eq last 0)

    to_header2 : SameGrammar header1 header2
    to_header2 = grammar_kept header1 header2 14 44 sets.size (omega arith) (omega (arith, to_header1.count, was.header_node.1, header1_long, large)) (omega arith)
        (λ k where_. sets.others k (⊎_elim (λ before. inl before) (λ behind. inr (inr behind)) where_))

    header1_byte : (k : ℕ) → 8 ≤ k → get_or header1 k 0 ≡ get_or header k 0
    header1_byte k high = ⊎_elim
        (λ (e : last ≡ 0). ap (λ (l : List ℕ). get_or l k 0) (header_page e) ∙ links_byte total back page0 page1 links k high ∙ ap (λ (l : List ℕ). get_or l k 0) (page_header e))
        (λ (o : last ≢ 0). ap (λ (l : List ℕ). get_or l k 0) (header_same o))
        (cases_eq last 0)

    form_stays : SameForm (tree_head header) (tree_head header2)
    form_stays = form_bytes header header2 (λ k where_. sets.others k (inr where_) ∙ header1_byte k (⊎_elim (λ (p : (34 ≤ k) × (k < 36)). omega (arith, p.0)) (λ (q : 44 ≤ k). omega (arith, q)) where_))

    -- the last node's place in the map, and what is there
    last_place : (k : ℕ) (e : Stretch) → k + 1 ≡ length map → (get_or map k e).node ≡ last
    last_place k e is =
        ap (λ (t : Stretch). t.node) (get_or_default map k e (record { node = 0; at = 0; len = 0 }) (omega (arith, is)))
        ∙ ap (λ i. (get_or map i (record { node = 0; at = 0; len = 0 })).node) {x = k} {y = length map - 1} (omega (arith, is)) ∙ sym last_is

    not_last : (k : ℕ) (e : Stretch) → k + 1 < length map → (get_or map k e).node ≢ last
    not_last k e less = λ same. let is = places k (length map - 1) e (omega (arith, less)) (omega (arith, less)) (same ∙ sym (last_place (length map - 1) e (omega (arith, less)))) in omega (arith, is, less)

    last_node_cut : last ≢ 0 → IsNode page0
    last_node_cut other =
        let place : length map - 1 ≢ 0 = λ e. other (last_is ∙ ap (λ i. (get_or map i (record { node = 0; at = 0; len = 0 })).node) e ∙ ap (λ (t : Stretch). t.node) (was.stretches.first (record { node = 0; at = 0; len = 0 }))) in
        let is = was.stretches.each (length map - 1) (record { node = 0; at = 0; len = 0 }) (omega (arith, place)) (omega (arith, some)) in
        subst IsNode (ap (λ m. nodes_on sectors size a.content m) (sym last_is) ∙ sym page_was) is.grammar.well_formed

    records : (m : ℕ) → m < total → SameRecords (nodes_on sectors size a.content m) (nodes_on sectors size d.content m)
    records m less = ⊎_elim
        (λ (e : m ≡ 0). subst (λ i. SameRecords (nodes_on sectors size a.content i) (nodes_on sectors size d.content i)) (sym e)
        (subst (λ l. SameRecords l (nodes_on sectors size d.content 0)) (sym was.header_is) (subst (λ l. SameRecords header l) (sym at_zero) (records_both header header1 header2 to_header1 (of_grammar header1 header2 to_header2)))))
        (λ (o : m ≢ 0). ⊎_elim
        (λ (is : m ≡ last).
        let there : last ≢ 0 = λ z. o (is ∙ z) in
        subst (λ i. SameRecords (nodes_on sectors size a.content i) (nodes_on sectors size d.content i)) (sym is)
        (subst (λ l. SameRecords l (nodes_on sectors size d.content last)) page_was (subst (λ l. SameRecords page0 l) (sym (at_last there)) (links_records total back page0 page1 links (last_node_cut there)))))
        (λ (else_ : m ≢ last). subst (λ l. SameRecords (nodes_on sectors size a.content m) l) (sym (elsewhere m o else_ (λ e. omega (arith, e, less)))) (records_none (nodes_on sectors size a.content m)))
        (cases_eq m last))
        (cases_eq m 0)

    bytes : (m k : ℕ) → m < total → 8 ≤ k → (m ≡ 0 → 44 ≤ k) → get_or (nodes_on sectors size d.content m) k 0 ≡ get_or (nodes_on sectors size a.content m) k 0
    bytes m k less high far = ⊎_elim
        (λ (e : m ≡ 0).
        ap (λ i. get_or (nodes_on sectors size d.content i) k 0) e ∙ ap (λ (l : List ℕ). get_or l k 0) at_zero ∙ sets.others k (inr (inr (far e))) ∙ header1_byte k high
        ∙ ap (λ (l : List ℕ). get_or l k 0) (sym was.header_is) ∙ ap (λ i. get_or (nodes_on sectors size a.content i) k 0) (sym e))
        (λ (o : m ≢ 0). ⊎_elim
        (λ (is : m ≡ last).
        ap (λ i. get_or (nodes_on sectors size d.content i) k 0) is ∙ ap (λ (l : List ℕ). get_or l k 0) (at_last (λ z. o (is ∙ z))) ∙ links_byte total back page0 page1 links k high
        ∙ ap (λ (l : List ℕ). get_or l k 0) page_was ∙ ap (λ i. get_or (nodes_on sectors size a.content i) k 0) (sym is))
        (λ (else_ : m ≢ last). ap (λ (l : List ℕ). get_or l k 0) (elsewhere m o else_ (λ e. omega (arith, e, less))))
        (cases_eq m last))
        (cases_eq m 0)

    names : (k : ℕ) (e : Stretch) → k + 1 ≡ length map → next_of (nodes_on sectors size d.content (get_or map k e).node) ≡ total
    names k e is = ap (λ i. next_of (nodes_on sectors size d.content i)) (last_place k e is) ∙ ⊎_elim
        (λ (z : last ≡ 0). ap (λ i. next_of (nodes_on sectors size d.content i)) z ∙ ap next_of at_zero ∙ to_header2.next ∙ ap next_of (header_page z) ∙ links.next)
        (λ (o : last ≢ 0). ap next_of (at_last o) ∙ links.next)
        (cases_eq last 0)

    next : (k : ℕ) (e : Stretch) → k + 1 < length map → next_of (nodes_on sectors size d.content (get_or map k e).node) ≡ next_of (nodes_on sectors size a.content (get_or map k e).node)
    next k e less = ⊎_elim
        (λ (z : (get_or map k e).node ≡ 0).
        ap (λ i. next_of (nodes_on sectors size d.content i)) z ∙ ap next_of at_zero ∙ to_header2.next ∙ ap next_of (header_same (λ l. not_last k e less (z ∙ sym l)))
        ∙ ap next_of (sym was.header_is) ∙ ap (λ i. next_of (nodes_on sectors size a.content i)) (sym z))
        (λ (o : (get_or map k e).node ≢ 0). ap next_of (elsewhere (get_or map k e).node o (not_last k e less) (λ same. omega (arith, same, inside k e (omega (arith, less))))))
        (cases_eq (get_or map k e).node 0)

    adds : AddsMapNode (nodes_on sectors size a.content) (nodes_on sectors size d.content) size total map s
    adds = record {
      full = full;
      is_record = subst (λ l. IsMapRecord l s) (sym at_new) new_node.is_record;
      node = s_node;
      no_next = ap next_of at_new ∙ new_node.no_next;
      some = omega (arith, new_node.long, new_long, large);
      own = ap (λ (l : List ℕ). bit_of l (8 * s.at)) at_new ∙ new_node.own;
      others = λ i more less. ap (λ (l : List ℕ). bit_of l (8 * s.at + i)) at_new ∙ new_node.others i more less;
      records = records;
      names = names;
      next = next;
      bytes = bytes;
    }

    added_map : HasMap sectors size (total + 1) free (map ++ s ∷ []) header2 d.content
    added_map = map_node_added sectors size total free map header header2 a.content d.content s adds at_zero (ap (λ (t : TreeShape). t.node_size) sets.numbers ∙ size_is) (ap (λ (t : TreeShape). t.total) sets.numbers ∙ total_is) inside low was

    -- ---- the tree is kept

    nodes_stay : (n : ℕ) → n < total → is_reserved map n ≡ false → nodes_on sectors size d.content n ≡ nodes_on sectors size a.content n
    nodes_stay n less free_node = elsewhere n (λ e. not_header map n free_node (sym e))
        (λ e. map_node map n (get_or map (length map - 1) (record { node = 0; at = 0; len = 0 })).node free_node (any_at map (length map - 1) (record { node = 0; at = 0; len = 0 }) (omega (arith, some))) (sym last_is ∙ sym e))
        (λ e. omega (arith, e, less))

    used_stays : (n : ℕ) → n < total → used_in (nodes_on sectors size d.content) (map ++ s ∷ []) n ≡ used_in (nodes_on sectors size a.content) map n
    used_stays n less = added_used (nodes_on sectors size a.content) (nodes_on sectors size d.content) size total map s adds inside low was.stretches n less

    reserved_stays : (n : ℕ) → n < total → is_reserved (map ++ s ∷ []) n ≡ is_reserved map n
    reserved_stays n less = added_reserved map s n (λ e. omega (arith, e, s_node, less))

    fresh_used : (n : ℕ) → total ≤ n → n < total + 1 → used_in (nodes_on sectors size d.content) (map ++ s ∷ []) n ≡ is_reserved (map ++ s ∷ []) n
    fresh_used n high less =
        let is : is_reserved (map ++ s ∷ []) n ≡ true = new_reserved map s n (omega (arith, s_node, high, less)) in
        added_map.reserved n less is ∙ sym is

    pub is_added : IsAdded sectors size total free map header header2 page2 s a.content d.content
    is_added = record { has_map = added_map; added_node = at_new; form = form_stays; nodes = nodes_stay; used = used_stays; reserved = reserved_stays; fresh = fresh_used }
