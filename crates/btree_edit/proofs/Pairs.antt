-- Keys and values of records.
use Rattle.std.proofs.Common.{◌≡◌, ◌⊎◌, ℕ, ◌+◌, ◌<◌, ◌≤◌, List, ◌++◌, length, take, drop, inl, inr, sym, ◌∙◌, ap, arith, length-drop}
use Rattle.std.proofs.lemmas.Bool.{cases_lt}
use Rattle.std.proofs.lemmas.List.{length-take, take_all, drop_all, take_at, drop_at, take-append-drop}
use Rattle.hx_bytes.specs.Field.{big_at}
use Rattle.hx_bytes.specs.declared.fields.Order.TheVariants.{Big}
use Rattle.hx_bytes.proofs.Laws.{number_at-drop, number_at-front}
use Rattle.btree_node.specs.Levels.{key_of, value_of, child_of}

pub take_length : (m : ℕ) (l : List ℕ) → take (length (take m l)) l ≡ take m l
take_length m l = elim (cases_lt (length l) m) [
  | inl short ↦
      let whole : take m l ≡ l = take_all m l (omega arith) in
      ap (λ (x : List ℕ). take (length x) l) whole ∙ take_all (length l) l (omega arith) ∙ sym whole
  | inr long ↦ ap (λ n. take n l) (omega (arith, length-take m l))
]

pub drop_length : (m : ℕ) (l : List ℕ) → drop (length (take m l)) l ≡ drop m l
drop_length m l = elim (cases_lt (length l) m) [
  | inl short ↦
      let whole : take m l ≡ l = take_all m l (omega arith) in
      ap (λ (x : List ℕ). drop (length x) l) whole ∙ drop_all (length l) l (omega arith) ∙ sym (drop_all m l (omega arith))
  | inr long ↦ ap (λ n. drop n l) (omega (arith, length-take m l))
]

-- a key's length is where its value begins
pub key_taken : (item own : List ℕ) → own ≡ key_of item → take (length own) item ≡ key_of item
unfolding key_of
key_taken item own is = ap (λ (l : List ℕ). take (length l) item) is ∙ take_length (big_at 2 item 0 + 2) item

pub value_dropped : (item own : List ℕ) → own ≡ key_of item → drop (length own) item ≡ value_of item
unfolding key_of value_of
value_dropped item own is = ap (λ (l : List ℕ). drop (length l) item) is ∙ drop_length (big_at 2 item 0 + 2) item

pub pair_joined : (item : List ℕ) → item ≡ key_of item ++ value_of item
unfolding key_of value_of
pair_joined item = sym (take-append-drop (big_at 2 item 0 + 2) item)

pub child_read : (item own : List ℕ) → own ≡ key_of item → big_at 4 item (length own) ≡ child_of item
unfolding child_of
child_read item own is = number_at-drop Big 4 (length own) item ∙ ap (λ (l : List ℕ). big_at 4 l 0) (value_dropped item own is)

pub value_long : (item own : List ℕ) → own ≡ key_of item → length own + 4 ≤ length item ⊎ (length (value_of item) < 4)
value_long item own is = elim (cases_lt (length item) (length own + 4)) [
  | inl short ↦ inr (omega (arith, ap length (value_dropped item own is), length-drop (length own) item))
  | inr long ↦ inl long
]

-- a record that names a node has the node's first key
module _ (key : List ℕ) (long : length key ≡ big_at 2 key 0 + 2) (rest : List ℕ) where
  front_length : big_at 2 (key ++ rest) 0 + 2 ≡ length key
  front_length = ap (λ n. n + 2) (number_at-front Big 2 0 key rest (omega arith)) ∙ sym long

  pub key_of_joined : key_of (key ++ rest) ≡ key
  unfolding key_of
  key_of_joined = take_at key rest (big_at 2 (key ++ rest) 0 + 2) (sym front_length)

  pub value_of_joined : value_of (key ++ rest) ≡ rest
  unfolding value_of
  value_of_joined = drop_at key rest (big_at 2 (key ++ rest) 0 + 2) (sym front_length)

-- what was kept in a buffer
pub kept_part : (size : ℕ) (item new items : List ℕ) → length new ≡ size → take (length item) new ≡ item → take (length item) (take size (new ++ drop (length new) items)) ≡ item
kept_part size item new items long front = ap (λ (l : List ℕ). take (length item) l) (take_at new (drop (length new) items) size long) ∙ front

pub kept_size : (size : ℕ) (new items : List ℕ) → length new ≡ size → length (take size (new ++ drop (length new) items)) ≡ size
kept_size size new items long = ap length (take_at new (drop (length new) items) size long) ∙ long

pub key_short : (item own : List ℕ) → own ≡ key_of item → length own ≤ length item
unfolding key_of
key_short item own is = omega (arith, ap length is, length-take (big_at 2 item 0 + 2) item)
