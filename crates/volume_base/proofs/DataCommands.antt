-- What `write` and `trunc` weigh that put data.
use Rattle.std.proofs.Common.{◌≡◌, ◌<◌, ◌≤◌, ℕ, ◌+◌, ◌^◌, Bool, true, false, List, [], ◌∷◌, length, refl, sym, ◌∙◌, ap, subst, arith}
use Rattle.std.specs.Prelude.{◌==◌, ◌||◌, nat_lt, max, Option, Some, None, Result, Ok, Err, Contains, IfNone, IfOk, IfSome, is_some, if◌then◌else◌}
use Rattle.std.proofs.lemmas.Bool.{cases_lt, lt-ltb, le-ltb, ltb-false, ltb-true, ne_eqb}
use Rattle.hfs_language.specs.declared.command.Command.TheVariants as command
use Rattle.hfs_language.specs.declared.refusal.Refusal.TheVariants as refusal
use Rattle.hfs_language.specs.declared.reply.Facts.{Facts}
use Rattle.hfs_language.specs.declared.reply.Reply.{Reply}
use Rattle.hfs_language.specs.declared.reply.Reply.TheVariants as reply
use Rattle.hfs_model.specs.Step.{Step, is_refusal, most_bytes, most_size, on, refuses, size_written, step, step_line, to_file, to_node, to_trunc, to_write, unless, written}
use Rattle.hfs_model.specs.declared.plain.PlainNode.{PlainNode}
use Rattle.hfs_model.specs.declared.plain.PlainTree.{PlainTree}
use Rattle.hfs_volume.specs.Content.{VolumeState}
use Rattle.hfs_volume.specs.Cost.{cost_of}
use Rattle.hfs_volume.specs.Weight.{Data, cut_cost, data_of, edits, free_blocks, grown_data, needs_cut, needs_for, room_with, weight, weight_with, written_data}
use Rattle.hfs_volume.proofs.Reaching.{then_ok, unless_ok}
use Rattle.volume_base.specs.DataWeighing.{data_as, data_weighed, needs_data}
use Rattle.volume_base.specs.Refusing.{against_trunc, against_write}
use Rattle.volume_base.specs.Weighing.{joined, refused_or, weighed}
use Rattle.volume_base.specs.declared.data_cost.Put.{Put}
use Rattle.volume_base.proofs.ToNode.{node_there}
use Rattle.volume_base.proofs.ToldFile.{IsAbout}

-- ---- the weight

trunc_weighs : (capacity : ℕ) (free : List Bool) (volume : VolumeState) (tree : PlainTree) (path : List (List ℕ)) (size : ℕ) (put : Data) → data_of tree (command.Trunc path size) ≡ Some put → needs_cut volume (Some put) ≡ false
    → weight_with capacity free volume tree (command.Trunc path size) ≡ cost_of (needs_data free volume put) (room_with capacity free volume)
unfolding weight_with
trunc_weighs capacity free volume tree path size put is no_cut =
    ap (λ (d : Option Data). if needs_cut volume d then cut_cost (room_with capacity free volume) else cost_of (needs_for free volume (edits 0 0 0 1) d) (room_with capacity free volume)) is
    ∙ ap (λ b. if b then cut_cost (room_with capacity free volume) else cost_of (needs_data free volume put) (room_with capacity free volume)) no_cut

write_weighs : (capacity : ℕ) (free : List Bool) (volume : VolumeState) (tree : PlainTree) (path : List (List ℕ)) (from : ℕ) (value : List ℕ) (put : Data) → data_of tree (command.Write path from value) ≡ Some put → needs_cut volume (Some put) ≡ false
    → weight_with capacity free volume tree (command.Write path from value) ≡ cost_of (needs_data free volume put) (room_with capacity free volume)
unfolding weight_with
write_weighs capacity free volume tree path from value put is no_cut =
    ap (λ (d : Option Data). if needs_cut volume d then cut_cost (room_with capacity free volume) else cost_of (needs_for free volume (edits 0 0 0 1) d) (room_with capacity free volume)) is
    ∙ ap (λ b. if b then cut_cost (room_with capacity free volume) else cost_of (needs_data free volume put) (room_with capacity free volume)) no_cut

module _ (capacity : ℕ) (takable : List Bool) (volume : VolumeState) (tree : PlainTree) (path : List (List ℕ)) (put : Data) (no_cut : needs_cut volume (Some put) ≡ false) where
  pub trunc_weighed : (size : ℕ) → data_of tree (command.Trunc path size) ≡ Some put → (after : PlainTree) → step_line tree (Ok (command.Trunc path size)) ≡ (reply.Ok, after) → data_weighed capacity takable volume put ≡ weighed capacity takable volume tree (command.Trunc path size)
  trunc_weighed size is after line =
      sym (λ i. joined (trunc_weighs capacity (free_blocks volume) volume tree path size put is no_cut i) (trunc_weighs capacity takable volume tree path size put is no_cut i))
      ∙ sym (ap (λ (s : Step). refused_or s.0 (joined (weight capacity volume tree (command.Trunc path size)) (weight_with capacity takable volume tree (command.Trunc path size)))) line)

  pub write_weighed : (from : ℕ) (value : List ℕ) → data_of tree (command.Write path from value) ≡ Some put → (after : PlainTree) → step_line tree (Ok (command.Write path from value)) ≡ (reply.Ok, after) → data_weighed capacity takable volume put ≡ weighed capacity takable volume tree (command.Write path from value)
  write_weighed from value is after line =
      sym (λ i. joined (write_weighs capacity (free_blocks volume) volume tree path from value put is no_cut i) (write_weighs capacity takable volume tree path from value put is no_cut i))
      ∙ sym (ap (λ (s : Step). refused_or s.0 (joined (weight capacity volume tree (command.Write path from value)) (weight_with capacity takable volume tree (command.Write path from value)))) line)

-- what it waits for
pub trunc_more : (volume : VolumeState) (tree : PlainTree) (path : List (List ℕ)) (size : ℕ) (put : Data) → data_of tree (command.Trunc path size) ≡ Some put → needs_cut volume (Some put) ≡ true → needs_cut volume (data_of tree (command.Trunc path size)) ≡ true
trunc_more volume tree path size put is more = ap (needs_cut volume) is ∙ more

pub write_more : (volume : VolumeState) (tree : PlainTree) (path : List (List ℕ)) (from : ℕ) (value : List ℕ) (put : Data) → data_of tree (command.Write path from value) ≡ Some put → needs_cut volume (Some put) ≡ true → needs_cut volume (data_of tree (command.Write path from value)) ≡ true
write_more volume tree path from value put is more = ap (needs_cut volume) is ∙ more

-- ---- the file

-- the folder or file that a command is about is one of the tree's files
pub about_file : (tree : PlainTree) (path : List (List ℕ)) (node : PlainNode) → to_file tree path ≡ Ok node → Contains tree.nodes node × (node.folder ≡ false)
about_file tree path node is =
    let own = then_ok (to_node tree path) (λ n. unless n.folder refusal.IsFolder n) node is in
    let kind = unless_ok own.0.folder refusal.IsFolder own.0 node own.2 in
    subst (λ (n : PlainNode). Contains tree.nodes n × (n.folder ≡ false)) kind.1 (node_there tree path own.0 own.1, kind.0)

module _ (tree : PlainTree) (path : List (List ℕ)) (told : Facts) (node : PlainNode) (it : IsAbout tree path told node) where
  module _ (put : Put) (id : put.id ≡ told.id) (old : put.old_size ≡ told.size) where
    pub trunc_put : (size : ℕ) → told.size < size → put.from ≡ told.size → put.end ≡ size → data_of tree (command.Trunc path size) ≡ Some (data_as put)
    trunc_put size long from end =
        ap (grown_data size) it.file ∙ ap (λ b. if b then Some (grown (length node.bytes) node.id size) else None) (lt-ltb (length node.bytes) size (omega (arith, long, it.size)))
        ∙ (λ i. Some (record { id = (it.id ∙ sym id) i; old_size = (it.size ∙ sym old) i; new_size = larger i; from = (it.size ∙ sym from) i; end = sym end i }))
      where
        grown : ℕ → ℕ → ℕ → Data
        grown long_ id_ size_ = record { id = id_; old_size = long_; new_size = size_; from = long_; end = size_ }

        larger : size ≡ max put.old_size put.end
        larger = omega (arith, long, old, end)

    pub write_put : (from : ℕ) (value : List ℕ) → (length value == 0) ≡ false → put.from ≡ from → put.end ≡ from + length value → data_of tree (command.Write path from value) ≡ Some (data_as put)
    write_put from value some start end =
        ap (written_data from (length value)) it.file ∙ ap (λ b. if b then None else Some (put_there (size_written (length node.bytes) from (length value)))) some
        ∙ (λ i. Some (record { id = (it.id ∙ sym id) i; old_size = (it.size ∙ sym old) i; new_size = larger i; from = sym start i; end = sym end i }))
      where
        put_there : ℕ → Data
        put_there size = record { id = node.id; old_size = length node.bytes; new_size = size; from = from; end = from + length value }

        by_long : (b : Bool) → nat_lt (length node.bytes) (from + length value) ≡ b → (if b then from + length value else length node.bytes) ≡ max put.old_size put.end
        by_long true is = omega (arith, ltb-true (length node.bytes) (from + length value) is, old, end, it.size)
        by_long false is = omega (arith, ltb-false (length node.bytes) (from + length value) is, old, end, it.size)

        larger : size_written (length node.bytes) from (length value) ≡ max put.old_size put.end
        larger = ap (λ b. if b then length node.bytes else if nat_lt (length node.bytes) (from + length value) then from + length value else length node.bytes) some ∙ by_long (nat_lt (length node.bytes) (from + length value)) refl

  -- `write` isn't refused
  pub write_line : (from : ℕ) (value : List ℕ) → to_write tree path from value ≡ Ok node → step_line tree (Ok (command.Write path from value)) ≡ (reply.Ok, written node from value tree)
  write_line from value allowed =
      ap (λ b. if b || false then (reply.No refusal.Private, tree) else step tree (command.Write path from value)) it.not_own
      ∙ ap (λ r. on tree r (λ (file : PlainNode). (reply.Ok, written file from value tree))) allowed

-- ---- sizes

pub trunc_low : (size : ℕ) (told : Facts) → None ≡ against_trunc size told → size ≤ 2 ^ 40
trunc_low size told none = by told.folder (nat_lt most_size size) refl none
  where
    by : (a b : Bool) → nat_lt most_size size ≡ b → None ≡ (if a then Some refusal.IsFolder else if b then Some refusal.TooLarge else None) → size ≤ 2 ^ 40
    by true b is same = absurd (cc same)
    by false true is same = absurd (cc same)
    by false false is same = omega (arith, ltb-false most_size size is)

pub write_low : (from long : ℕ) (told : Facts) → None ≡ against_write from long told → from + long ≤ 2 ^ 40
write_low from long told none = by told.folder (nat_lt most_size (from + long)) refl none
  where
    by : (a b : Bool) → nat_lt most_size (from + long) ≡ b → None ≡ (if a then Some refusal.IsFolder else if b || nat_lt most_bytes long then Some refusal.TooLarge else None) → from + long ≤ 2 ^ 40
    by true b is same = absurd (cc same)
    by false true is same = absurd (cc same)
    by false false is same = omega (arith, ltb-false most_size (from + long) is)

-- ---- what was told

-- two facts on what was told
pub said_both : {A E : Type 0} (result : Result A E) (P Q R : A → Type 0) → IfOk result P → IfOk result Q → ((a : A) → P a → Q a → R a) → IfOk result R
said_both (Ok a) P Q R p q so = so a p q
said_both (Err e) P Q R p q so = tt

pub some_both : {A : Type 0} (said : Option A) (P : A → Type 0) (Q : Type 0) {R : A → Type 0} → IfSome said P → (is_some said ≡ true → Q) → ((a : A) → P a → Q → R a) → IfSome said R
some_both (Some a) P Q p q so = so a p (q refl)
some_both None P Q p q so = tt

pub none_so : {A : Type 0} (said : Option A) (P Q : Type 0) → (P → Q) → IfNone said P → IfNone said Q
none_so None P Q so p = so p
none_so (Some a) P Q so p = p
