-- What the writes of one level make of it.
use Rattle.std.proofs.Common.{◌≡◌, ◌≢◌, ℕ, zero, suc, ◌+◌, ◌-◌, ◌<◌, ◌≤◌, Bool, true, false, IsTrue, List, [], ◌∷◌, ◌++◌, length, take, drop, get_or, inl, inr, refl, sym, ◌∙◌, ap, subst, arith}
use Rattle.std.proofs.lemmas.Bool.{cases_eq}
use Rattle.std.specs.Prelude.{eqb}
use Rattle.std.specs.List.{sum_by}
use Rattle.std.proofs.lemmas.List.{append-nil, get_or_append_left, get_or-take, length-take, length-append, take_at, drop_at}
use Rattle.hx_bytes.specs.Field.{big}
use Rattle.btree_node.specs.Node.{items, kind_of, height_of, next_of, back_of, IsNode, IsNodeOf, SameHead, SetsLinks}
use Rattle.btree_node.specs.Levels.{key_of, record_for, splice}
use Rattle.btree_node.specs.Store.{Store, SameStore, ChangesOnly, MapsOnly, with_free}
use Rattle.btree_node.specs.Tree.{kind_at, IsTreeNode}
use Rattle.btree_node.specs.declared.store.TreeShape.{TreeShape}
use Rattle.btree_edit.specs.declared.desk.Desk.{Desk}
use Rattle.btree_edit.specs.Halves.{record_of, with_put, IsSplit, AreForTwo}
use Rattle.btree_edit.specs.LevelEdit.{bit, times, taken, node_room, edited, CanEdit, HasSixth, MovesEnds, LevelEdit}
use Rattle.btree_edit.specs.Writes.{SetsNext, SetsBack, WritesHalves, IsOpened}
use Rattle.btree_edit.proofs.Counting.{bit_same, bit_other}

-- bytes that are as before have the links that they had
pub same_links : (old new : List ℕ) (behind before : ℕ) → new ≡ old → next_of old ≡ behind → back_of old ≡ before → SetsLinks behind before old new
same_links old new behind before same next back = record {
  next = ap next_of same ∙ next;
  back = ap back_of same ∙ back;
  size = ap (λ (l : List ℕ). length l) same;
  rest = ap (λ (l : List ℕ). drop 8 l) same;
  kind = ap kind_of same;
  height = ap height_of same;
  items = λ _. ap items same;
  well_formed = λ cut. subst IsNode (sym same) cut;
}

pub not_both : (b : Bool) → IsTrue b → b ≡ false → ⊥
not_both b is is_not = cc

pub same_head_both : (a b c : List ℕ) → SameHead a b → SameHead b c → SameHead a c
same_head_both a b c one two = record {
  size = two.size ∙ one.size;
  kind = two.kind ∙ one.kind;
  height = two.height ∙ one.height;
  next = two.next ∙ one.next;
  back = two.back ∙ one.back;
}

-- a node that is as it was is one of the tree still
pub still_tree_node : (old new : Store) (height n : ℕ) → SameStore old new → new.nodes n ≡ old.nodes n → IsTreeNode old height n → IsTreeNode new height n
still_tree_node old new height n same is node = record {
  inside = subst (λ t. n < t) (sym same.total) node.inside;
  kind = subst (IsNodeOf (kind_at height) height) (sym is) node.kind;
  size = ap (λ (l : List ℕ). length l) is ∙ node.size ∙ sym same.node_size;
}

-- others put where a record was taken out stand in its place
pub put_in_gap : (xs : List (List ℕ)) (i j : ℕ) (others : List (List ℕ)) → i ≤ length xs → with_put (splice xs i j []) i others ≡ splice xs i j others
put_in_gap xs i j others inside =
    let long : length (take i xs) ≡ i = omega (arith, length-take i xs) in
    ap (λ (l : List (List ℕ)). l ++ (others ++ drop i (take i xs ++ drop j xs))) (take_at (take i xs) (drop j xs) i long)
    ∙ ap (λ (l : List (List ℕ)). take i xs ++ (others ++ l)) (drop_at (take i xs) (drop j xs) i long)

pub opens : (store : Store) (height node place : ℕ) (removed : Bool) (put : List (List ℕ)) (spare : ℕ) (bytes : List ℕ) → CanEdit store height node place removed put spare
    → items bytes ≡ splice (items (store.nodes node)) place (place + bit removed) [] → SameHead (store.nodes node) bytes → IsOpened store height node place removed put spare bytes
opens store height node place removed put spare bytes can is head =
    let all : List (List ℕ) = items (store.nodes node) in
    record {
      can = can;
      records = ap (λ (l : List (List ℕ)). with_put l place put) is ∙ put_in_gap all place (place + bit removed) put (omega (arith, can.inside));
      inside = omega (arith, ap (λ (l : List (List ℕ)). length l) is, length-append (take place all) (drop (place + bit removed) all), length-take place all, can.inside);
      head = head;
    }

still_sixth : (old new : List ℕ) → length new ≡ length old → items new ≡ items old → HasSixth old → HasSixth new
still_sixth old new size is some = omega (arith, size, some, ap (λ (l : List (List ℕ)). sum_by (λ bytes. length bytes) l) is)

pub above_zero : (n : ℕ) → eqb n 0 ≡ false → 0 < n
above_zero zero is = cc
above_zero (suc n) is = omega arith

one_only : (P : ℕ → Type 0) (n : ℕ) → P n → (k : ℕ) → k < 1 → P (get_or (n ∷ []) k 0)
one_only P n is zero inside = is
one_only P n is (suc k) inside = absurd (omega arith)

two_only : (P : ℕ → Type 0) (n m : ℕ) → P n → P m → (k : ℕ) → k < 2 → P (get_or (n ∷ m ∷ []) k 0)
two_only P n m is other zero inside = is
two_only P n m is other (suc zero) inside = other
two_only P n m is other (suc (suc k)) inside = absurd (omega arith)

none_only : (P : ℕ → Type 0) (k : ℕ) → k < 0 → P (get_or [] k 0)
none_only P k inside = absurd (omega arith)

module _ (old new : Store) (height node place : ℕ) (removed : Bool) (put : List (List ℕ)) (spare : ℕ)
    (can : CanEdit old height node place removed put spare) (same : SameStore old new)
  where
    -- the records from before the place are as they were
    first_same : 0 < place → get_or (edited old node place removed put) 0 [] ≡ get_or (items (old.nodes node)) 0 []
    first_same some =
        let long : 0 < length (take place (items (old.nodes node))) = omega (arith, length-take place (items (old.nodes node)), can.inside) in
        get_or_append_left (take place (items (old.nodes node))) _ [] 0 long ∙ get_or-take place (items (old.nodes node)) 0 [] some

    tree_node : (n : ℕ) (bytes : List ℕ) → n < old.shape.total → new.nodes n ≡ bytes → IsNodeOf (kind_at height) height bytes → length bytes ≡ old.shape.node_size → IsTreeNode new height n
    tree_node n bytes inside is kind size = record {
      inside = subst (λ t. n < t) (sym same.total) inside;
      kind = subst (IsNodeOf (kind_at height) height) (sym is) kind;
      size = ap (λ (l : List ℕ). length l) is ∙ size ∙ sym same.node_size;
    }

    -- the node alone is written
    module _ (bytes : List ℕ) (changed : Bool) (desk : Desk) (shape : TreeShape) (writes : ChangesOnly node bytes old new) (shapes : new.shape ≡ old.shape)
        (made : items bytes ≡ edited old node place removed put) (cut : IsNode bytes) (head : SameHead (old.nodes node) bytes) (some : 0 < length (items bytes))
        (name : record_of desk.first ≡ key_of (get_or (items bytes) 0 []) ++ big 4 node) (stays : changed ≡ false → 0 < place)
      where
        kept_used : (k : ℕ) → new.used k ≡ old.used k
        kept_used = writes.used

        kept_records : items (new.nodes node) ≡ edited old node place removed put
        kept_records = ap items writes.here ∙ made

        pub kept_edit : LevelEdit old new height node place removed put 1 changed desk shape shape
        kept_edit = record {
          fresh = 0;
          most = omega arith;
          records = append-nil (items (new.nodes node)) ∙ kept_records;
          nodes = one_only (λ n. IsTreeNode new height n) node (tree_node node bytes can.spot.is_node.inside writes.here
              (record { well_formed = cut; has_kind = head.kind ∙ can.spot.is_node.kind.has_kind; has_height = head.height ∙ can.spot.is_node.kind.has_height })
              (head.size ∙ can.spot.is_node.size));
          some = one_only (λ n. 0 < length (items (new.nodes n))) node (subst (λ (l : List ℕ). 0 < length (items l)) (sym writes.here) some);
          links = (ap back_of writes.here ∙ head.back, ap next_of writes.here ∙ head.next, tt);
          back = λ is. same_links _ _ _ _ (writes.others _ (can.spot.before is).0.other) (can.spot.before is).1 refl;
          next = λ is. same_links _ _ _ _ (writes.others _ (can.spot.behind is).0.other) refl (can.spot.behind is).1;
          others = λ k _ other _ _ _. writes.others k other;
          used = λ k. ap (λ b. bit b + times k (node ∷ [])) (kept_used k);
          free = ap (λ (s : TreeShape). s.free + 1) shapes;
          shape = shapes ∙ ap (λ n. with_free old.shape n) (ap (λ (s : TreeShape). s.free) (sym shapes));
          same = same;
          split = λ two. absurd (omega (arith, two));
          sixth = λ two. absurd (omega (arith, two));
          handed = ap (λ (r : List ℕ). r ∷ []) (name ∙ ap (λ (l : List ℕ). key_of (get_or (items l) 0 []) ++ big 4 node) (sym writes.here));
          kept = λ is. (refl, ap (λ (r : List ℕ). key_of r ++ big 4 node) (ap (λ (l : List (List ℕ)). get_or l 0 []) kept_records ∙ first_same (stays is)));
          ends = record {
            above = λ _. (refl, refl);
            first = λ _ is. is;
            other_first = λ _ _. refl;
            last = λ _ is. is;
            other_last = λ _ _. refl;
            root = refl;
            depth = refl;
            leaf_records = refl;
          };
        }

    -- the node is given back, and its neighbours name each other
    module _ (mid last : Store) (desk : Desk) (before after : TreeShape) (first : SetsNext (back_of (old.nodes node)) (next_of (old.nodes node)) old mid)
        (second : SetsBack (next_of (old.nodes node)) (back_of (old.nodes node)) mid last) (maps : MapsOnly node false last new)
        (plain : (n : ℕ) → last.reserved n ≡ old.reserved n) (shapes : new.shape ≡ with_free old.shape (old.shape.free + 1))
        (none : edited old node place removed put ≡ []) (ends : MovesEnds height node [] (back_of (old.nodes node)) (next_of (old.nodes node)) before after)
      where
        apart : next_of (old.nodes node) ≢ 0 → next_of (old.nodes node) ≢ back_of (old.nodes node)
        apart some is = can.spot.apart (λ none. some (is ∙ none)) (sym is)

        dropped_used : (k : ℕ) → bit (new.used k) + times k (node ∷ []) ≡ bit (old.used k) + times k []
        dropped_used k = elim (cases_eq k node) [
          | inl is ↦ omega (arith, ap (λ n. bit (new.used n)) is, ap bit maps.here, ap (λ n. bit (old.used n)) is, ap bit can.spot.used, bit_same node k (sym is))
          | inr other ↦ omega (arith, ap bit (maps.others k other ∙ second.used k ∙ first.used k), bit_other node k (λ is. other (sym is)))
        ]

        pub dropped_edit : LevelEdit old new height node place removed put 0 true desk before after
        dropped_edit = record {
          fresh = 0;
          most = omega arith;
          records = sym none;
          nodes = none_only (λ n. IsTreeNode new height n);
          some = none_only (λ n. 0 < length (items (new.nodes n)));
          links = tt;
          back = λ is. subst (λ (l : List ℕ). SetsLinks (next_of (old.nodes node)) (back_of (old.nodes (back_of (old.nodes node)))) (old.nodes (back_of (old.nodes node))) l)
              (sym (maps.nodes _ (plain _ ∙ (can.spot.before is).0.of_tree) ∙ second.others _ (can.spot.apart is))) (first.links is);
          next = λ is. subst (λ (l : List ℕ). SetsLinks (next_of (old.nodes (next_of (old.nodes node)))) (back_of (old.nodes node)) (old.nodes (next_of (old.nodes node))) l)
              (sym (maps.nodes _ (plain _ ∙ (can.spot.behind is).0.of_tree)))
              (subst (λ (l : List ℕ). SetsLinks (next_of l) (back_of (old.nodes node)) l (last.nodes (next_of (old.nodes node)))) (first.others _ (apart is)) (second.links is));
          others = λ k reserved other _ not_back not_next. maps.nodes k (plain k ∙ reserved) ∙ second.others k not_next ∙ first.others k not_back;
          used = dropped_used;
          free = omega (arith, ap (λ (s : TreeShape). s.free) shapes);
          shape = shapes ∙ ap (λ n. with_free old.shape n) (ap (λ (s : TreeShape). s.free) (sym shapes));
          same = same;
          split = λ two. absurd (omega (arith, two));
          sixth = λ two. absurd (omega (arith, two));
          handed = refl;
          kept = λ is. cc;
          ends = ends;
        }

    -- the node is split
    module _ (mid last : Store) (fresh : ℕ) (opened front back : List ℕ) (desk : Desk) (before after : TreeShape)
        (maps : MapsOnly fresh true old mid) (free : old.used fresh ≡ false) (plain : old.reserved fresh ≡ false) (inside : fresh < old.shape.total)
        (halves : WritesHalves node fresh front back mid last) (beside : SetsBack (next_of (old.nodes node)) fresh last new)
        (shapes : new.shape ≡ with_free old.shape (old.shape.free - 1)) (left : 0 < old.shape.free)
        (split : IsSplit (kind_at height) height (edited old node place removed put) opened front back) (head : SameHead (old.nodes node) opened)
        (name : record_of desk.first ≡ key_of (get_or (items front) 0 []) ++ big 4 node) (other_name : record_of desk.second ≡ key_of (get_or (items back) 0 []) ++ big 4 fresh)
        (over : node_room old.shape.node_size < taken (edited old node place removed put))
        (sixth : AreForTwo old.shape.node_size (edited old node place removed put) → HasSixth front × HasSixth back)
        (ends : MovesEnds height node (node ∷ fresh ∷ []) (back_of (old.nodes node)) (next_of (old.nodes node)) before after)
      where
        other_used : (n : ℕ) → old.used n ≡ true → n ≢ fresh
        other_used n used is = cc

        next_kept : next_of front ≡ next_of (old.nodes node)
        next_kept = split.head.next ∙ head.next

        back_kept : back_of front ≡ back_of (old.nodes node)
        back_kept = split.head.back ∙ head.back

        -- setting the link of the node behind leaves this one and the fresh one
        beside_kept : (n : ℕ) → (next_of (old.nodes node) ≢ 0 → n ≢ next_of (old.nodes node)) → new.nodes n ≡ last.nodes n
        beside_kept n other = elim (cases_eq (next_of (old.nodes node)) 0) [
          | inl none ↦ beside.none none n
          | inr some ↦ beside.others n (other some)
        ]

        at_node : new.nodes node ≡ last.nodes node
        at_node = beside_kept node (λ some is. (can.spot.behind some).0.other (sym is))

        at_fresh : new.nodes fresh ≡ last.nodes fresh
        at_fresh = beside_kept fresh (λ some is. other_used _ (can.spot.behind some).0.used (sym is))

        in_node : SetsLinks fresh (back_of front) front (new.nodes node)
        in_node = subst (λ (l : List ℕ). SetsLinks fresh (back_of front) front l) (sym at_node) halves.in_node

        in_fresh : SetsLinks (next_of front) node back (new.nodes fresh)
        in_fresh = subst (λ (l : List ℕ). SetsLinks (next_of front) node back l) (sym at_fresh) halves.in_fresh

        node_items : items (new.nodes node) ≡ items front
        node_items = in_node.items split.is_front.well_formed

        fresh_items : items (new.nodes fresh) ≡ items back
        fresh_items = in_fresh.items split.is_back.well_formed

        -- a node that is neither, before the link is set
        far : (n : ℕ) → old.reserved n ≡ false → n ≢ node → n ≢ fresh → last.nodes n ≡ old.nodes n
        far n reserved not_node not_fresh = halves.others n not_node not_fresh ∙ maps.nodes n reserved

        split_used : (k : ℕ) → bit (new.used k) + times k (node ∷ []) ≡ bit (old.used k) + times k (node ∷ fresh ∷ [])
        split_used k = elim (cases_eq k fresh) [
          | inl is ↦ omega (arith, ap (λ n. bit (new.used n)) is, ap bit (beside.used fresh ∙ halves.used fresh ∙ maps.here), ap (λ n. bit (old.used n)) is, ap bit free, bit_same fresh k (sym is))
          | inr other ↦ omega (arith, ap bit (beside.used k ∙ halves.used k ∙ maps.others k other), bit_other fresh k (λ is. other (sym is)))
        ]

        for_two : ((k : ℕ) → k < length (edited old node place removed put) → 5 ≤ length (get_or (edited old node place removed put) k [])) → AreForTwo old.shape.node_size (edited old node place removed put)
        for_two longer = record { over = over; fits = can.fits; some = longer }

        pub split_edit : LevelEdit old new height node place removed put 2 true desk before after
        split_edit = record {
          fresh = fresh;
          most = omega arith;
          records = ap (λ (l : List (List ℕ)). l ++ (items (new.nodes fresh) ++ [])) node_items
              ∙ ap (λ (l : List (List ℕ)). items front ++ (l ++ [])) fresh_items
              ∙ ap (λ (l : List (List ℕ)). items front ++ l) (append-nil (items back))
              ∙ split.joined;
          nodes = two_only (λ n. IsTreeNode new height n) node fresh
              (tree_node node (new.nodes node) can.spot.is_node.inside refl
              (record { well_formed = in_node.well_formed split.is_front.well_formed; has_kind = in_node.kind ∙ split.is_front.has_kind; has_height = in_node.height ∙ split.is_front.has_height })
              (in_node.size ∙ split.head.size ∙ head.size ∙ can.spot.is_node.size))
              (tree_node fresh (new.nodes fresh) inside refl
              (record { well_formed = in_fresh.well_formed split.is_back.well_formed; has_kind = in_fresh.kind ∙ split.is_back.has_kind; has_height = in_fresh.height ∙ split.is_back.has_height })
              (in_fresh.size ∙ split.size ∙ head.size ∙ can.spot.is_node.size));
          some = two_only (λ n. 0 < length (items (new.nodes n))) node fresh
              (omega (arith, split.some_front, ap (λ (l : List (List ℕ)). length l) node_items))
              (omega (arith, split.some_back, ap (λ (l : List (List ℕ)). length l) fresh_items));
          links = (in_node.back ∙ back_kept, in_node.next, (in_fresh.back, in_fresh.next ∙ next_kept, tt));
          back = λ is. same_links _ _ _ _
              (beside_kept _ (λ _. can.spot.apart is) ∙ far _ (can.spot.before is).0.of_tree (can.spot.before is).0.other (other_used _ (can.spot.before is).0.used))
              (can.spot.before is).1 refl;
          next = λ is. subst (λ (l : List ℕ). SetsLinks (next_of l) fresh l (new.nodes (next_of (old.nodes node))))
              (far _ (can.spot.behind is).0.of_tree (can.spot.behind is).0.other (other_used _ (can.spot.behind is).0.used)) (beside.links is);
          others = λ k reserved not_node none not_back not_next.
              beside_kept k (λ _. not_next) ∙ far k reserved not_node (λ is. absurd (omega (arith, none, bit_same fresh k (sym is))));
          used = split_used;
          free = omega (arith, ap (λ (s : TreeShape). s.free) shapes, left);
          shape = shapes ∙ ap (λ n. with_free old.shape n) (ap (λ (s : TreeShape). s.free) (sym shapes));
          same = same;
          split = λ _. over;
          sixth = λ _ longer. two_only (λ n. HasSixth (new.nodes n)) node fresh (still_sixth front (new.nodes node) in_node.size node_items (sixth (for_two longer)).0) (still_sixth back (new.nodes fresh) in_fresh.size fresh_items (sixth (for_two longer)).1);
          handed = ap (λ (r : List ℕ). r ∷ record_of desk.second ∷ []) (name ∙ ap (λ (l : List (List ℕ)). key_of (get_or l 0 []) ++ big 4 node) (sym node_items))
              ∙ ap (λ (r : List ℕ). record_for new.nodes node ∷ r ∷ []) (other_name ∙ ap (λ (l : List (List ℕ)). key_of (get_or l 0 []) ++ big 4 fresh) (sym fresh_items));
          kept = λ is. cc;
          ends = ends;
        }
