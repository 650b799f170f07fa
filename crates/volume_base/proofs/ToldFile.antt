-- What `stat` told of a file says what `trunc` and `write` do to it, where nothing stands against them.
use Rattle.std.proofs.Common.{◌≡◌, ◌<◌, ◌≤◌, ℕ, ◌+◌, Bool, true, false, List, [], ◌∷◌, length, refl, sym, ◌∙◌, ap, subst, arith}
use Rattle.std.specs.Prelude.{◌==◌, ◌||◌, nat_lt, is_some, Option, Some, None, Result, Ok, Err, if◌then◌else◌}
use Rattle.std.proofs.lemmas.Bool.{lt-ltb, le-ltb}
use Rattle.hfs_language.specs.declared.command.Command.TheVariants as command
use Rattle.hfs_language.specs.declared.refusal.Refusal.{Refusal}
use Rattle.hfs_language.specs.declared.refusal.Refusal.TheVariants as refusal
use Rattle.hfs_language.specs.declared.reply.Facts.{Facts}
use Rattle.hfs_language.specs.declared.reply.Reply.TheVariants as reply
use Rattle.hfs_model.specs.Plain.{entries_in}
use Rattle.hfs_model.specs.Step.{facts_of, is_private_path, most_bytes, most_size, on, resized, size_written, step, step_line, then_, to_file, to_node, to_trunc, to_write, unless, written}
use Rattle.hfs_model.specs.declared.plain.PlainNode.{PlainNode}
use Rattle.hfs_model.specs.declared.plain.PlainTree.{PlainTree}
use Rattle.volume_runs.specs.Run.{is_ok, or_before, shrunk_by}
use Rattle.hfs_volume.specs.Weight.{Data, data_of, grown_data, written_data}
use Rattle.volume_base.specs.Refusing.{against_trunc, against_write, facts_or}
use Rattle.volume_base.specs.Resizing.{shrunk_then}

-- The folder or file of which this was told.
pub record IsTold (tree : PlainTree) (path : List (List ℕ)) (told : Facts) : Type 0 where
  pub node : PlainNode
  pub found : to_node tree path ≡ Ok node
  pub facts : told ≡ facts_of tree node
  pub not_own : is_private_path path ≡ false

-- The file that a command is about.
pub record IsAbout (tree : PlainTree) (path : List (List ℕ)) (told : Facts) (node : PlainNode) : Type 0 where
  pub file : to_file tree path ≡ Ok node
  pub id : node.id ≡ told.id
  pub size : length node.bytes ≡ told.size
  pub not_own : is_private_path path ≡ false

facts_in : Facts → Result Facts Refusal → Facts
facts_in other (Ok told) = told
facts_in other (Err why) = other

pub told_node : (tree : PlainTree) (path : List (List ℕ)) (told : Facts) → Ok told ≡ facts_or (step_line tree (Ok (command.Stat path))).0 → IsTold tree path told
unfolding facts_in
told_node tree path told is = by_own (is_private_path path) refl is
  where
    by_node : is_private_path path ≡ false → (r : Result PlainNode Refusal) → to_node tree path ≡ r → Ok told ≡ facts_or (on tree r (λ node. (reply.Facts (facts_of tree node), tree))).0 → IsTold tree path told
    by_node own (Ok node) found same = record { node = node; found = found; facts = ap (facts_in told) same; not_own = own }
    by_node own (Err why) found same = absurd (cc same)

    by_own : (b : Bool) → is_private_path path ≡ b → Ok told ≡ facts_or (if b || false then (reply.No refusal.Private, tree) else step tree (command.Stat path)).0 → IsTold tree path told
    by_own true own same = absurd (cc same)
    by_own false own same = by_node own (to_node tree path) refl same

module _ (tree : PlainTree) (path : List (List ℕ)) (told : Facts) (it : IsTold tree path told) where
  -- of a file its own size is told
  pub about : it.node.folder ≡ false → IsAbout tree path told it.node
  about kind = record {
    file = ap (λ r. then_ r (λ node. unless node.folder refusal.IsFolder node)) it.found ∙ ap (λ b. if b then Err refusal.IsFolder else Ok it.node) kind;
    id = sym (ap (λ (f : Facts). f.id) it.facts);
    size = sym (ap (λ (f : Facts). f.size) it.facts ∙ ap (λ b. if b then length (entries_in tree it.node.id) else length it.node.bytes) kind);
    not_own = it.not_own;
  }

  pub trunc_told : (size : ℕ) → None ≡ against_trunc size told → IsAbout tree path told it.node × (to_trunc tree path size ≡ Ok it.node)
  trunc_told size none =
      let both = of_folder it.node (length (entries_in tree it.node.id)) it.node.folder (none ∙ ap (against_trunc size) it.facts) in
      (about both.0, ap (λ r. then_ (then_ r (λ node. unless node.folder refusal.IsFolder node)) (unless (nat_lt most_size size) refusal.TooLarge)) it.found ∙ both.1)
    where
      of_size : (node : PlainNode) (b : Bool) → None ≡ (if b then Some refusal.TooLarge else None) → (if b then Err refusal.TooLarge else Ok node) ≡ Ok node
      of_size node true same = absurd (cc same)
      of_size node false same = refl

      of_folder : (node : PlainNode) (entries : ℕ) (b : Bool) → None ≡ (if b then Some refusal.IsFolder else if nat_lt most_size size then Some refusal.TooLarge else None)
          → (b ≡ false) × (then_ (if b then Err refusal.IsFolder else Ok node) (unless (nat_lt most_size size) refusal.TooLarge) ≡ Ok node)
      of_folder node entries true same = absurd (cc same)
      of_folder node entries false same = (refl, of_size node (nat_lt most_size size) same)

  -- so many bytes are too many for a `write`, or for any file
  abbrev is_large : ℕ → List ℕ → Bool
  is_large from value = nat_lt most_size (from + length value) || nat_lt most_bytes (length value)

  pub write_told : (from : ℕ) (value : List ℕ) → None ≡ against_write from (length value) told → IsAbout tree path told it.node × (to_write tree path from value ≡ Ok it.node)
  write_told from value none =
      let both = of_folder it.node (length (entries_in tree it.node.id)) it.node.folder (none ∙ ap (against_write from (length value)) it.facts) in
      (about both.0, ap (λ r. then_ (then_ r (λ node. unless node.folder refusal.IsFolder node)) (unless (is_large from value) refusal.TooLarge)) it.found ∙ both.1)
    where
      of_size : (node : PlainNode) (b : Bool) → None ≡ (if b then Some refusal.TooLarge else None) → (if b then Err refusal.TooLarge else Ok node) ≡ Ok node
      of_size node true same = absurd (cc same)
      of_size node false same = refl

      of_folder : (node : PlainNode) (entries : ℕ) (b : Bool)
          → None ≡ (if b then Some refusal.IsFolder else if is_large from value then Some refusal.TooLarge else None)
          → (b ≡ false) × (then_ (if b then Err refusal.IsFolder else Ok node) (unless (is_large from value) refusal.TooLarge) ≡ Ok node)
      of_folder node entries true same = absurd (cc same)
      of_folder node entries false same = (refl, of_size node (is_large from value) same)

-- ---- what they come to

module _ (tree : PlainTree) (path : List (List ℕ)) (told : Facts) (node : PlainNode) (it : IsAbout tree path told node) where
  module _ (size : ℕ) where
    pub trunc_line : to_trunc tree path size ≡ Ok node → step_line tree (Ok (command.Trunc path size)) ≡ (reply.Ok, resized node size tree)
    trunc_line allowed =
        ap (λ b. if b || false then (reply.No refusal.Private, tree) else step tree (command.Trunc path size)) it.not_own
        ∙ ap (λ r. on tree r (λ (file : PlainNode). (reply.Ok, resized file size tree))) allowed

    pub trunc_tree : (step tree (command.Trunc path size)).1 ≡ (step_line tree (Ok (command.Trunc path size))).1
    trunc_tree = sym (ap (λ b. (if b || false then (reply.No refusal.Private, tree) else step tree (command.Trunc path size)).1) it.not_own)

    grown : Data
    grown = record { id = node.id; old_size = length node.bytes; new_size = size; from = length node.bytes; end = size }

    -- it puts data exactly where the file grows
    pub short_data : size ≤ told.size → data_of tree (command.Trunc path size) ≡ None
    unfolding grown
    short_data short = ap (grown_data size) it.file ∙ ap (λ b. if b then Some grown else None) (le-ltb (length node.bytes) size (omega (arith, short, it.size)))

    pub long_data : told.size < size → is_some (data_of tree (command.Trunc path size)) ≡ true
    unfolding grown
    long_data long = ap (λ r. is_some (grown_data size r)) it.file ∙ ap (λ b. is_some (if b then Some grown else None)) (lt-ltb (length node.bytes) size (omega (arith, long, it.size)))

    -- the file that was shrunk last
    pub shrunk_told : (before : Option ℕ) → (if nat_lt size told.size then Some told.id else before) ≡ shrunk_then tree path size (Some reply.Ok) before
    shrunk_told before =
        (λ i. if nat_lt size (sym it.size i) then Some (sym it.id i) else before)
        ∙ by (nat_lt size (length node.bytes))
        ∙ sym (ap (λ r. or_before (shrunk_to r) before) it.file)
      where
        shrunk_to : Result PlainNode Refusal → Option ℕ
        shrunk_to (Ok file) = if nat_lt size (length file.bytes) then Some file.id else None
        shrunk_to (Err why) = None

        by : (b : Bool) → (if b then Some node.id else before) ≡ or_before (if b then Some node.id else None) before
        by true = refl
        by false = refl

  -- ---- `write` of no byte

  module _ (from : ℕ) (value : List ℕ) (empty : length value ≡ 0) where
    pub empty_data : data_of tree (command.Write path from value) ≡ None
    empty_data = ap (written_data from (length value)) it.file ∙ ap (λ b. if b then None else Some put) (ap (λ n. n == 0) empty)
      where
        put : Data
        put = record { id = node.id; old_size = length node.bytes; new_size = size_written (length node.bytes) from (length value); from = from; end = from + length value }

    pub empty_line : to_write tree path from value ≡ Ok node → step_line tree (Ok (command.Write path from value)) ≡ (reply.Ok, tree)
    empty_line allowed =
        ap (λ b. if b || false then (reply.No refusal.Private, tree) else step tree (command.Write path from value)) it.not_own
        ∙ ap (λ r. on tree r (λ (file : PlainNode). (reply.Ok, written file from value tree))) allowed
        ∙ ap (λ (v : List ℕ). (reply.Ok, written node from v tree)) (none_is value empty)
      where
        none_is : (v : List ℕ) → length v ≡ 0 → v ≡ []
        none_is [] none = refl
        none_is (byte ∷ v) none = absurd (omega (arith, none))
