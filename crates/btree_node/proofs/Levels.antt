-- Levels of a tree whose records change in one node.
use Rattle.std.proofs.Common.{◌≡◌, ℕ, suc, ◌+◌, ◌<◌, ◌≤◌, List, [], ◌∷◌, ◌++◌, map, length, take, drop, get_or, refl, sym, ◌∙◌, ap, arith, append_assoc}
use Rattle.std.proofs.lemmas.List.{take-append-le, drop-append-le, map-append, length-map, append-nil}
use Rattle.std.proofs.lemmas.List.Concat.{flat_map-append}
use Rattle.std.proofs.Math.Seq.{take-append-add, drop-append-add}
use Rattle.hx_bytes.specs.Field.{big}
use Rattle.btree_node.specs.Node.{items}
use Rattle.btree_node.specs.Levels.{Nodes, entries, key_of, record_for, splice}

-- the same records in each of these nodes are the same records of them all
pub same_entries : (old new : Nodes) (ns : List ℕ) → ((k : ℕ) → k < length ns → items (new (get_or ns k 0)) ≡ items (old (get_or ns k 0))) → entries new ns ≡ entries old ns
same_entries old new [] same = refl
same_entries old new (n ∷ ns) same =
    ap (λ l. l ++ entries new ns) (same 0 (omega arith))
    ∙ ap (λ l. items (old n) ++ l) (same_entries old new ns (λ k inside. same (suc k) (omega arith)))

pub entries-append : (nodes : Nodes) (xs ys : List ℕ) → entries nodes (xs ++ ys) ≡ entries nodes xs ++ entries nodes ys
entries-append nodes xs ys = flat_map-append (λ n. items (nodes n)) xs ys

-- what stands in place of a part, put into the whole
pub splice_inside : {X : Type 0} (front middle back others : List X) (i j : ℕ) → i ≤ j → j ≤ length middle
    → splice (front ++ (middle ++ back)) (length front + i) (length front + j) others ≡ front ++ (splice middle i j others ++ back)
splice_inside front middle back others i j ordered inside =
    let first : take (length front + i) (front ++ (middle ++ back)) ≡ front ++ take i middle =
    take-append-add front (middle ++ back) i ∙ ap (λ l. front ++ l) (take-append-le i middle back (omega arith)) in
    let last : drop (length front + j) (front ++ (middle ++ back)) ≡ drop j middle ++ back =
    drop-append-add front (middle ++ back) j ∙ drop-append-le j middle back inside in
    ap (λ l. l ++ (others ++ drop (length front + j) (front ++ (middle ++ back)))) first
    ∙ ap (λ l. (front ++ take i middle) ++ (others ++ l)) last
    ∙ append_assoc front (take i middle) (others ++ (drop j middle ++ back))
    ∙ ap (λ l. front ++ (take i middle ++ l)) (sym (append_assoc others (drop j middle) back))
    ∙ ap (λ l. front ++ l) (sym (append_assoc (take i middle) (others ++ drop j middle) back))

-- One node of a level is changed into others that hold its records with some of them replaced: so does the level.
pub level_spliced : (old new : Nodes) (xs ys parts : List ℕ) (n i j : ℕ) (others : List (List ℕ))
    → ((k : ℕ) → k < length xs → items (new (get_or xs k 0)) ≡ items (old (get_or xs k 0)))
    → ((k : ℕ) → k < length ys → items (new (get_or ys k 0)) ≡ items (old (get_or ys k 0)))
    → i ≤ j → j ≤ length (items (old n)) → entries new parts ≡ splice (items (old n)) i j others
    → entries new (xs ++ (parts ++ ys)) ≡ splice (entries old (xs ++ n ∷ ys)) (length (entries old xs) + i) (length (entries old xs) + j) others
level_spliced old new xs ys parts n i j others same_xs same_ys ordered inside made =
    entries-append new xs (parts ++ ys)
    ∙ ap (λ l. l ++ entries new (parts ++ ys)) (same_entries old new xs same_xs)
    ∙ ap (λ l. entries old xs ++ l) (entries-append new parts ys ∙ ap (λ l. l ++ entries new ys) made ∙ ap (λ l. splice (items (old n)) i j others ++ l) (same_entries old new ys same_ys))
    ∙ sym (splice_inside (entries old xs) (items (old n)) (entries old ys) others i j ordered inside)
    ∙ ap (λ l. splice l (length (entries old xs) + i) (length (entries old xs) + j) others) (sym (entries-append old xs (n ∷ ys)))

-- the records that name a level's nodes are the same where the nodes' are
same_names : (old new : Nodes) (ns : List ℕ) → ((k : ℕ) → k < length ns → items (new (get_or ns k 0)) ≡ items (old (get_or ns k 0))) → map (λ n. record_for new n) ns ≡ map (λ n. record_for old n) ns
same_names old new [] same = refl
same_names old new (n ∷ ns) same =
    ap (λ l. (key_of (get_or l 0 []) ++ big 4 n) ∷ map (λ m. record_for new m) ns) (same 0 (omega arith))
    ∙ ap (λ l. record_for old n ∷ l) (same_names old new ns (λ k inside. same (suc k) (omega arith)))

-- One node of a level is changed into others: of the records that name the level, one is replaced by those for the others.
pub names_spliced : (old new : Nodes) (xs ys parts : List ℕ) (n : ℕ)
    → ((k : ℕ) → k < length xs → items (new (get_or xs k 0)) ≡ items (old (get_or xs k 0)))
    → ((k : ℕ) → k < length ys → items (new (get_or ys k 0)) ≡ items (old (get_or ys k 0)))
    → map (λ m. record_for new m) (xs ++ (parts ++ ys)) ≡ splice (map (λ m. record_for old m) (xs ++ n ∷ ys)) (length xs) (length xs + 1) (map (λ m. record_for new m) parts)
names_spliced old new xs ys parts n same_xs same_ys =
    let f : ℕ → List ℕ = λ m. record_for old m in
    let g : ℕ → List ℕ = λ m. record_for new m in
    let whole : map f (xs ++ n ∷ ys) ≡ map f xs ++ ((f n ∷ []) ++ map f ys) = map-append f xs (n ∷ ys) in
    let long : length (map f xs) ≡ length xs = length-map xs f in
    let spliced : splice (map f xs ++ ((f n ∷ []) ++ map f ys)) (length (map f xs) + 0) (length (map f xs) + 1) (map g parts) ≡ map f xs ++ (splice (f n ∷ []) 0 1 (map g parts) ++ map f ys) =
    splice_inside (map f xs) (f n ∷ []) (map f ys) (map g parts) 0 1 (omega arith) (omega arith) in
    let one : splice (f n ∷ []) 0 1 (map g parts) ≡ map g parts = append-nil (map g parts) in
    map-append g xs (parts ++ ys)
    ∙ ap (λ l. l ++ map g (parts ++ ys)) (same_names old new xs same_xs)
    ∙ ap (λ l. map f xs ++ l) (map-append g parts ys ∙ ap (λ l. map g parts ++ l) (same_names old new ys same_ys))
    ∙ ap (λ l. map f xs ++ (l ++ map f ys)) (sym one)
    ∙ sym spliced
    ∙ ap (λ k. splice (map f xs ++ ((f n ∷ []) ++ map f ys)) k (length (map f xs) + 1) (map g parts)) (omega arith)
    ∙ ap (λ k. splice (map f xs ++ ((f n ∷ []) ++ map f ys)) (length xs) k (map g parts)) (omega arith)
    ∙ ap (λ l. splice l (length xs) (length xs + 1) (map g parts)) (sym whole)
