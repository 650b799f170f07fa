-- What `stat` told of a file says what data `write` and `trunc` put into it, and why they are refused.
use Rattle.std.proofs.Common.{◌≡◌, ◌<◌, ◌≤◌, ℕ, ◌+◌, ◌-◌, ◌^◌, min, max, Bool, true, false, List, [], ◌∷◌, length, refl, sym, ◌∙◌, ap, subst, arith, ⊎_elim}
use Rattle.std.specs.Prelude.{Contains, ◌==◌, ◌||◌, nat_lt, Option, Some, None, Result, Ok, Err, if◌then◌else◌}
use Rattle.std.proofs.lemmas.Bool.{cases_lt, le-ltb, lt-ltb, ne_eqb, true≢false}
use Rattle.hfs_language.specs.declared.command.Command.TheVariants as command
use Rattle.hfs_language.specs.declared.refusal.Refusal.{Refusal}
use Rattle.hfs_language.specs.declared.refusal.Refusal.TheVariants as refusal
use Rattle.hfs_language.specs.declared.reply.Facts.{Facts}
use Rattle.hfs_language.specs.declared.reply.Reply.TheVariants as reply
use Rattle.hfs_model.specs.Plain.{entries_in}
use Rattle.hfs_model.specs.Step.{Step, facts_of, is_private_path, is_refusal, most_bytes, most_size, on, refuses, size_written, step, step_line, then_, to_file, to_node, to_write, unless, written}
use Rattle.hfs_model.specs.declared.plain.PlainNode.{PlainNode}
use Rattle.hfs_model.specs.declared.plain.PlainTree.{PlainTree}
use Rattle.hfs_volume.specs.Weight.{Data, data_of, grown_data, written_data}
use Rattle.hfs_volume.proofs.Flat.{none_or_some, some_same}
use Rattle.hfs_volume.proofs.Reaching.{then_ok, unless_ok}
use Rattle.volume_base.specs.Refusing.{against_trunc, against_write, facts_or}
use Rattle.volume_space.specs.Writing.{IsAt}
use Rattle.volume_base.proofs.ToldFile.{IsAbout}
use Rattle.volume_base.proofs.ToNode.{node_there}

-- the file that a path stands for
pub file_there : (tree : PlainTree) (path : List (List ℕ)) (node : PlainNode) → to_file tree path ≡ Ok node → Contains tree.nodes node × (node.folder ≡ false)
file_there tree path node allowed =
    let own = then_ok (to_node tree path) (λ n. unless n.folder refusal.IsFolder n) node allowed in
    let kind = unless_ok own.0.folder refusal.IsFolder own.0 node own.2 in
    subst (λ (n : PlainNode). Contains tree.nodes n × (n.folder ≡ false)) kind.1 (node_there tree path own.0 own.1, kind.0)

-- ---- how large it may be

not_more : (most n : ℕ) → nat_lt most n ≡ false → n ≤ most
not_more most n is = ⊎_elim (λ more. absurd (true≢false (sym (lt-ltb most n more) ∙ is))) (λ less. less) (cases_lt most n)

pub write_small : (from long : ℕ) (told : Facts) → None ≡ against_write from long told → from + long ≤ 2 ^ 40
write_small from long told none = by told.folder (nat_lt most_size (from + long)) (nat_lt most_bytes long) refl None none
  where
    by : (b c d : Bool) → nat_lt most_size (from + long) ≡ c → (rest : Option Refusal) → None ≡ (if b then Some refusal.IsFolder else if c || d then Some refusal.TooLarge else rest) → from + long ≤ 2 ^ 40
    by true c d is rest same = absurd (cc same)
    by false true d is rest same = absurd (cc same)
    by false false d is rest same = not_more most_size (from + long) is

pub trunc_small : (size : ℕ) (told : Facts) → None ≡ against_trunc size told → size ≤ 2 ^ 40
trunc_small size told none = by told.folder (nat_lt most_size size) refl None none
  where
    by : (b c : Bool) → nat_lt most_size size ≡ c → (rest : Option Refusal) → None ≡ (if b then Some refusal.IsFolder else if c then Some refusal.TooLarge else rest) → size ≤ 2 ^ 40
    by true c is rest same = absurd (cc same)
    by false true is rest same = absurd (cc same)
    by false false is rest same = not_more most_size size is

-- ---- what they put

module _ (tree : PlainTree) (path : List (List ℕ)) (told : Facts) (node : PlainNode) (it : IsAbout tree path told node) where
  module _ (from : ℕ) (value : List ℕ) where
    pub put_by_write : Data
    put_by_write = record { id = node.id; old_size = length node.bytes; new_size = size_written (length node.bytes) from (length value); from = from; end = from + length value }

    pub write_id : put_by_write.id ≡ told.id
    unfolding put_by_write
    write_id = it.id

    pub write_line : to_write tree path from value ≡ Ok node → step_line tree (Ok (command.Write path from value)) ≡ (reply.Ok, written node from value tree)
    write_line allowed =
        ap (λ b. if b || false then (reply.No refusal.Private, tree) else step tree (command.Write path from value)) it.not_own
        ∙ ap (λ r. on tree r (λ (file : PlainNode). (reply.Ok, written file from value tree))) allowed

    pub write_tree : (step tree (command.Write path from value)).1 ≡ (step_line tree (Ok (command.Write path from value))).1
    write_tree = sym (ap (λ b. (if b || false then (reply.No refusal.Private, tree) else step tree (command.Write path from value)).1) it.not_own)

    module _ (some : 0 < length value) where
      none_empty : (length value == 0) ≡ false
      none_empty = ne_eqb (length value) 0 (λ same. absurd (omega (arith, some, same)))

      pub write_data : data_of tree (command.Write path from value) ≡ Some put_by_write
      unfolding put_by_write
      write_data = ap (written_data from (length value)) it.file
          ∙ ap (λ b. if b then None else Some (record { id = node.id; old_size = length node.bytes; new_size = size_written (length node.bytes) from (length value); from = from; end = from + length value })) none_empty

      new_size : size_written (length node.bytes) from (length value) ≡ max (length node.bytes) (from + length value)
      new_size = ap (λ b. if b then length node.bytes else if nat_lt (length node.bytes) (from + length value) then from + length value else length node.bytes) none_empty
          ∙ ⊎_elim
          (λ (more : length node.bytes < from + length value). ap (λ b. if b then from + length value else length node.bytes) (lt-ltb (length node.bytes) (from + length value) more) ∙ omega (arith, more))
          (λ (less : from + length value ≤ length node.bytes). ap (λ b. if b then from + length value else length node.bytes) (le-ltb (length node.bytes) (from + length value) less) ∙ omega (arith, less))
          (cases_lt (length node.bytes) (from + length value))

      pub write_at : IsAt put_by_write (length node.bytes) from (from + length value)
      unfolding put_by_write
      write_at = record { size_is = refl; new_is = new_size; end_is = refl; place = refl }

  module _ (size : ℕ) (longer : told.size < size) where
    pub put_by_trunc : Data
    put_by_trunc = record { id = node.id; old_size = length node.bytes; new_size = size; from = length node.bytes; end = size }

    pub trunc_id : put_by_trunc.id ≡ told.id
    unfolding put_by_trunc
    trunc_id = it.id

    pub trunc_data : data_of tree (command.Trunc path size) ≡ Some put_by_trunc
    unfolding put_by_trunc
    trunc_data = ap (grown_data size) it.file
        ∙ ap (λ b. if b then Some (record { id = node.id; old_size = length node.bytes; new_size = size; from = length node.bytes; end = size }) else None) (lt-ltb (length node.bytes) size (omega (arith, longer, it.size)))

    -- as a zero that is written where the last byte will be
    pub trunc_at : IsAt put_by_trunc (length node.bytes) (size - 1) (size - 1 + 1)
    unfolding put_by_trunc
    trunc_at = record { size_is = refl; new_is = omega (arith, longer, it.size); end_is = omega (arith, longer); place = omega (arith, longer, it.size) }

-- a command whose reply is that it was done isn't refused
pub done_not_refused : (s other : Step) → s ≡ other → other.0 ≡ reply.Ok → is_refusal s.0 ≡ false
done_not_refused s other is done = ap (λ (x : Step). is_refusal x.0) is ∙ ap is_refusal done

-- ---- what the step of `write` refuses

abbrev facts_in : Facts → Result Facts Refusal → Facts
facts_in other (Ok told) = told
facts_in other (Err why) = other

abbrev refused_step : PlainTree → Refusal → Step
refused_step tree why = (reply.No why, tree)

abbrev why_in : Refusal → Result Facts Refusal → Refusal
why_in other (Ok told) = other
why_in other (Err why) = why

module _ (tree : PlainTree) (path : List (List ℕ)) (from : ℕ) (value : List ℕ) where
  abbrev is_large : Bool
  is_large = nat_lt most_size (from + length value) || nat_lt most_bytes (length value)

  abbrev done : PlainNode → Step
  done file = (reply.Ok, written file from value tree)

  abbrev goes : Result PlainNode Refusal → Step
  goes r = on tree (then_ (then_ r (λ node. unless node.folder refusal.IsFolder node)) (unless (nat_lt most_size (from + length value) || nat_lt most_bytes (length value)) refusal.TooLarge))
      (λ (file : PlainNode). (reply.Ok, written file from value tree))

  pub write_refused_told : (told : Facts) → Ok told ≡ facts_or (step_line tree (Ok (command.Stat path))).0 → (why : Refusal) → Some why ≡ against_write from (length value) told
      → (reply.No why ≡ (step_line tree (Ok (command.Write path from value))).0) × (tree ≡ (step_line tree (Ok (command.Write path from value))).1)
  write_refused_told told is why stands = by_own (is_private_path path) is
    where
      of_size : (n : PlainNode) (b : Bool) → Some why ≡ (if b then Some refusal.TooLarge else None) → on tree (if b then Err refusal.TooLarge else Ok n) (λ (file : PlainNode). (reply.Ok, written file from value tree)) ≡ (reply.No why, tree)
      of_size n true same = ap (λ (w : Refusal). refused_step tree w) (sym (some_same why refusal.TooLarge same))
      of_size n false same = absurd (none_or_some why (sym same))

      of_folder : (n : PlainNode) (entries : ℕ) (b : Bool)
          → Some why ≡ (if b then Some refusal.IsFolder else if nat_lt most_size (from + length value) || nat_lt most_bytes (length value) then Some refusal.TooLarge else None)
          → on tree (then_ (if b then Err refusal.IsFolder else Ok n) (unless (nat_lt most_size (from + length value) || nat_lt most_bytes (length value)) refusal.TooLarge)) (λ (file : PlainNode). (reply.Ok, written file from value tree)) ≡ (reply.No why, tree)
      of_folder n entries true same = ap (λ (w : Refusal). refused_step tree w) (sym (some_same why refusal.IsFolder same))
      of_folder n entries false same = of_size n (nat_lt most_size (from + length value) || nat_lt most_bytes (length value)) same

      by_node : (r : Result PlainNode Refusal) → Ok told ≡ facts_or (on tree r (λ node. (reply.Facts (facts_of tree node), tree))).0 → goes r ≡ (reply.No why, tree)
      by_node (Ok n) same = of_folder n (length (entries_in tree n.id)) n.folder (stands ∙ ap (against_write from (length value)) (ap (facts_in told) same))
      by_node (Err other) same = absurd (cc same)

      pair : (s : Step) → s ≡ (reply.No why, tree) → (reply.No why ≡ s.0) × (tree ≡ s.1)
      pair s is_it = (sym (ap (λ (x : Step). x.0) is_it), sym (ap (λ (x : Step). x.1) is_it))

      by_own : (b : Bool) → Ok told ≡ facts_or (if b || false then (reply.No refusal.Private, tree) else step tree (command.Stat path)).0
          → (reply.No why ≡ (if b || false then (reply.No refusal.Private, tree) else step tree (command.Write path from value)).0) × (tree ≡ (if b || false then (reply.No refusal.Private, tree) else step tree (command.Write path from value)).1)
      by_own true same = absurd (cc same)
      by_own false same = pair (step tree (command.Write path from value)) (by_node (to_node tree path) same)

  -- a path that `stat` is refused for
  pub write_refused_stat : (why : Refusal) → Err why ≡ facts_or (step_line tree (Ok (command.Stat path))).0
      → (reply.No why ≡ (step_line tree (Ok (command.Write path from value))).0) × (tree ≡ (step_line tree (Ok (command.Write path from value))).1)
  write_refused_stat why is = by_own (is_private_path path) is
    where
      by_node : (r : Result PlainNode Refusal) → Err why ≡ facts_or (on tree r (λ node. (reply.Facts (facts_of tree node), tree))).0 → goes r ≡ (reply.No why, tree)
      by_node (Ok n) same = absurd (cc same)
      by_node (Err other) same = ap (λ (w : Refusal). refused_step tree w) (sym (ap (why_in why) same))

      by_own : (b : Bool) → Err why ≡ facts_or (if b || false then (reply.No refusal.Private, tree) else step tree (command.Stat path)).0
          → (reply.No why ≡ (if b || false then (reply.No refusal.Private, tree) else step tree (command.Write path from value)).0) × (tree ≡ (if b || false then (reply.No refusal.Private, tree) else step tree (command.Write path from value)).1)
      by_own true same = (ap (λ (w : Refusal). reply.No w) (ap (why_in why) same), refl)
      by_own false same = let both = by_node (to_node tree path) same in (sym (ap (λ (x : Step). x.0) both), sym (ap (λ (x : Step). x.1) both))
