-- What the replies about the keeping folder say of the tree of a sound content.
use Rattle.std.proofs.Common.{◌≡◌, ◌≤◌, ◌<◌, ◌^◌, ◌++◌, ◌∷◌, [], ℕ, Bool, true, false, List, drop, length, map, refl, sym, ◌∙◌, ap, subst, arith, append_assoc}
use Rattle.std.specs.Prelude.{Contains, ◌==◌, ◌&&◌, ◌||◌, not, decimal, is_some, MatchOption, option_to_list, reverse, slice_get, Option, None, Some, Result, Ok, Err, if◌then◌else◌}
use Rattle.std.specs.List.{AllByRecursion, list_any}
use Rattle.std.specs.Option.{ok_or, option_map}
use Rattle.std.specs.Str.{bytes_eq}
use Rattle.std.proofs.lemmas.Bool.{eqb-true, le-leb, true≢false}
use Rattle.std.proofs.lemmas.Fmt.{decimal_nonempty, length-decimal-le}
use Rattle.std.proofs.lemmas.List.{append-nil, length-append, length-map, reverse-reverse}
use Rattle.std.proofs.lemmas.Slice.Eq.{bytes_eq-Decides}
use Rattle.jnl_format.specs.Recovery.{Content}
use Rattle.hfs_language.specs.declared.command.Command.{Command}
use Rattle.hfs_language.specs.declared.command.Command.TheVariants as command
use Rattle.hfs_language.specs.declared.refusal.Refusal.{Refusal}
use Rattle.hfs_language.specs.declared.refusal.Refusal.TheVariants as refusal
use Rattle.hfs_language.specs.declared.reply.Facts.{Facts}
use Rattle.hfs_language.specs.declared.reply.ListedName.{ListedName}
use Rattle.hfs_language.specs.declared.reply.Reply.{Reply}
use Rattle.hfs_language.specs.declared.reply.Reply.TheVariants as reply
use Rattle.hfs_model.specs.Plain.{entries_in, entry_at as place_at, is_at, is_node, node_at}
use Rattle.hfs_model.specs.Sorted.{kept}
use Rattle.hfs_model.specs.Step.{Step, child, facts_of, listed, on, reached, step, step_line, then_, to_folder, to_node, unless}
use Rattle.hfs_model.specs.declared.plain.PlainEntry.{PlainEntry}
use Rattle.hfs_model.specs.declared.plain.PlainNode.{PlainNode}
use Rattle.hfs_model.specs.declared.plain.PlainTree.{PlainTree}
use Rattle.hfs_volume.specs.Books.{IsGivenTree}
use Rattle.hfs_volume.specs.TreeOf.{tree_of}
use Rattle.hfs_volume.proofs.Flat.{found_some}
use Rattle.hfs_volume.proofs.Members.{at_front, behind, kept_cases}
use Rattle.volume_runs.specs.Run.{reply_to}
use Rattle.volume_look.specs.Talk.{Ends, Heard, HearsRight, IsRight, are_names, is_name, taken}
use Rattle.open_files.specs.Keeping.{is_own, is_own_keeper, is_taken, is_taken_by, keepers, keeping_entry, keeping_name, keeping_path, release, releases, stands_in}
use Rattle.session_lines.specs.Keepers.{FindsFiles, all_own, asked_before, begun, entries_command, entry_at, entry_command, folder_kind, heard_of, left_behind, left_by, next_of, own_file, own_told, talk_of, with_file}
use Rattle.session_lines.specs.declared.taken.Told.{Told}
use Rattle.session_lines.proofs.Looks.{look, look_is}
use Rattle.session_lines.proofs.Places.{stands_at}

-- ---- what was asked when

-- each of these was what is asked next, behind what was heard before it, and nothing is asked behind the last
abbrev pub InTurn : List Told → List Told → Type 0
InTurn past [] = next_of past ≡ None
InTurn past (told ∷ more) = (next_of past ≡ Some told.command) × InTurn (past ++ told ∷ []) more

abbrev pub command_in : Told → Command
command_in told = told.command

abbrev head_or : Command → List Command → Command
head_or other [] = other
head_or other (asked ∷ more) = asked

abbrev rest_of : List Command → List Command
rest_of [] = []
rest_of (asked ∷ more) = more

abbrev command_or : Command → Option Command → Command
command_or other None = other
command_or other (Some asked) = asked

no_command : (asked : Command) → ◌≡◌ {A = Option Command} None (Some asked) → ⊥
no_command asked same = cc same

one_at_most : (next : Option Command) → length (option_to_list next) ≤ 1
one_at_most None = omega arith
one_at_most (Some asked) = omega arith

no_more : (past heard : List Told) → length (asked_before past heard) ≤ length heard
no_more past [] = omega arith
no_more past (told ∷ more) = omega (arith, length-append (option_to_list (next_of past)) (asked_before (past ++ told ∷ []) more), one_at_most (next_of past), no_more (past ++ told ∷ []) more)

-- as many were asked as heard, so each was asked in its turn
in_turn : (past heard : List Told) → asked_before past heard ≡ map command_in heard → next_of (past ++ heard) ≡ None → InTurn past heard
in_turn past [] same none = ap next_of (sym (append-nil past)) ∙ none
in_turn past (told ∷ more) same none = by (λ tail. in_turn (past ++ told ∷ []) more tail (ap next_of (append_assoc past (told ∷ []) more) ∙ none)) (next_of past) refl
  where
    by : (asked_before (past ++ told ∷ []) more ≡ map command_in more → InTurn (past ++ told ∷ []) more) → (next : Option Command) → next_of past ≡ next → (next_of past ≡ Some told.command) × InTurn (past ++ told ∷ []) more
    by later None is =
        let fewer = ap (λ (o : Option Command). length (option_to_list o ++ asked_before (past ++ told ∷ []) more)) is in
        absurd (omega (arith, fewer, ap (λ (l : List Command). length l) same, length-map more command_in, no_more (past ++ told ∷ []) more))
    by later (Some asked) is =
        let both : asked ∷ asked_before (past ++ told ∷ []) more ≡ told.command ∷ map command_in more = ap (λ (o : Option Command). option_to_list o ++ asked_before (past ++ told ∷ []) more) (sym is) ∙ same in
        (is ∙ ap (λ (l : List Command). Some (head_or asked l)) both, later (ap rest_of both))

-- ---- what the tree says

module _ (capacity : ℕ) (content : Content) (given : IsGivenTree (tree_of content)) (few : (tree_of content).next_id < 2 ^ 64) where
  abbrev tree : PlainTree
  tree = tree_of content

  abbrev facts_step : PlainNode → Step
  facts_step node = (reply.Facts (facts_of tree node), tree)

  abbrev list_step : PlainNode → Step
  list_step node = (reply.Listing (map listed (entries_in tree node.id)), tree)

  abbrev at_entry : Option PlainEntry → Result PlainNode Refusal
  at_entry found = then_ (then_ (ok_or found refusal.NotFound) (λ next. Ok next)) (λ at. ok_or (node_at tree at.id) refusal.NotFound)

  -- the reply is the right one
  abbrev IsSo : Told → Type 0
  IsSo told = told.reply ≡ reply_to capacity content (taken told.command)

  -- what an entry stands for
  record HasFacts (entry : PlainEntry) : Type 0 where
    node : PlainNode
    found : node_at tree entry.id ≡ Some node
    folder : node.folder ≡ entry.folder
    id : node.id ≡ entry.id

  has_facts : (entry : PlainEntry) → Contains tree.entries entry → HasFacts entry
  has_facts entry stands =
      let named = (given.plain.named entry stands).named in
      record { node = named.0; found = named.1; folder = named.2; id = eqb-true named.0.id entry.id (found_some (is_node entry.id) tree.nodes named.0 named.1).1 }

  folder_look : look tree keeping_path ≡ (on tree (at_entry (keeping_entry tree)) facts_step).0
  folder_look = look_is tree keeping_path refl

  folder_list : reply_to capacity content (Ok (command.Ls keeping_path)) ≡ (on tree (then_ (at_entry (keeping_entry tree)) (λ node. unless (not node.folder) refusal.NotFolder node)) list_step).0
  folder_list = refl

  -- ---- the folder's entries

  module _ (folder : PlainEntry) (found : keeping_entry tree ≡ Some folder) (kind : folder.folder ≡ true) where
    abbrev in_folder : PlainEntry → Bool
    in_folder entry = entry.parent == folder.id

    keepers_are : keepers tree ≡ entries_in tree folder.id
    keepers_are = ap (λ (o : Option PlainEntry). kept (stands_in o) tree.entries) found

    list_is : reply_to capacity content (Ok (command.Ls keeping_path)) ≡ reply.Listing (map listed (entries_in tree folder.id))
    list_is =
        let it = has_facts folder (found_some (is_at 2 keeping_name) tree.entries folder found).0 in
        folder_list
        ∙ ap (λ (o : Option PlainEntry). (on tree (then_ (at_entry o) (λ node. unless (not node.folder) refusal.NotFolder node)) list_step).0) found
        ∙ ap (λ (o : Option PlainNode). (on tree (then_ (ok_or o refusal.NotFound) (λ node. unless (not node.folder) refusal.NotFolder node)) list_step).0) it.found
        ∙ ap (λ b. (on tree (unless (not b) refusal.NotFolder it.node) list_step).0) (it.folder ∙ kind)
        ∙ ap (λ n. reply.Listing (map listed (entries_in tree n))) it.id

    module _ (entry : PlainEntry) (stands : Contains tree.entries entry) (inside : in_folder entry ≡ true) where
      abbrev its_path : List (List ℕ)
      its_path = keeping_name ∷ entry.name ∷ []

      abbrev its_step : Bool → Option PlainEntry → Reply
      its_step b o = (on tree (then_ (then_ (if b then ok_or o refusal.NotFound else Err refusal.NotFolder) (λ next. Ok next)) (λ at. ok_or (node_at tree at.id) refusal.NotFound)) facts_step).0

      at_its_place : is_at folder.id entry.name entry ≡ true
      at_its_place = ap (λ b. b && bytes_eq entry.name entry.name) inside ∙ (bytes_eq-Decides entry.name entry.name).1 refl

      its_look : look tree its_path ≡ reply.Facts (facts_of tree (has_facts entry stands).node)
      its_look =
          look_is tree its_path refl
          ∙ ap (λ (o : Option PlainEntry). (on tree (then_ (then_ (ok_or o refusal.NotFound) (λ next. then_ (child tree next entry.name) (λ last. Ok last))) (λ at. ok_or (node_at tree at.id) refusal.NotFound)) facts_step).0) found
          ∙ ap (λ b. its_step b (place_at tree folder.id entry.name)) kind
          ∙ ap (its_step true) (stands_at tree given.plain.entries_sorted folder.id entry.name entry stands at_its_place)
          ∙ ap (λ (o : Option PlainNode). (on tree (ok_or o refusal.NotFound) facts_step).0) (has_facts entry stands).found

      abbrev own_id : Option ℕ
      own_id = if is_own entry then Some entry.id else None

      -- an id in decimal is a name
      its_number : is_own entry ≡ true → are_names its_path ≡ true
      its_number own =
          let low : entry.id < 2 ^ 64 = omega (arith, few, given.given (has_facts entry stands).node (found_some (is_node entry.id) tree.nodes (has_facts entry stands).node (has_facts entry stands).found).0, (has_facts entry stands).id) in
          let is : entry.name ≡ decimal entry.id = (bytes_eq-Decides entry.name (decimal entry.id)).0 (both_true (not entry.folder) (bytes_eq entry.name (decimal entry.id)) own).1 in
          ap (λ (name : List ℕ). is_name 255 name && true) is ∙ named (decimal entry.id) (decimal_nonempty entry.id low) (omega (arith, length-decimal-le 20 entry.id (omega arith) (omega (arith, low)) low))
        where
          both_true : (a b : Bool) → (a && b) ≡ true → (a ≡ true) × (b ≡ true)
          both_true true b is = (refl, is)
          both_true false b is = absurd (true≢false (sym is))

          some_one : (n : ℕ) → 0 < n → (b : Bool) → (n == 0) ≡ b → b ≡ false
          some_one n some true is = absurd (omega (arith, some, eqb-true n 0 is))
          some_one n some false is = refl

          named : (name : List ℕ) → 0 < length name → length name ≤ 255 → (is_name 255 name && true) ≡ true
          named name some few_units = λ i. (not (some_one (length name) some (length name == 0) refl i) && le-leb (length name) 255 few_units i) && true

      -- the reply says whether it is one as sessions make it
      its_file : (told : Told) → told.command ≡ command.Stat its_path → IsSo told → own_file told ≡ own_id
      its_file told asked so = by (are_names its_path) refl
        where
          reply_by : told.reply ≡ reply_to capacity content (taken (command.Stat its_path))
          reply_by = so ∙ ap (λ (it : Command). reply_to capacity content (taken it)) asked

          not_own : (b : Bool) → (b ≡ true → ⊥) → ◌≡◌ {A = Option ℕ} None (if b then Some entry.id else None)
          not_own true never = absurd (never refl)
          not_own false never = refl

          by : (b : Bool) → are_names its_path ≡ b → own_file told ≡ own_id
          by true is =
              let it = has_facts entry stands in
              (λ i. own_told (asked i) ((reply_by ∙ ap (λ b. reply_to capacity content (if b then Ok (command.Stat its_path) else Err refusal.BadCommand)) is ∙ its_look) i))
              ∙ (λ i. if is_own_keeper (it.folder i) entry.name (it.id i) then Some (it.id i) else None)
          by false is =
              (λ i. own_told (asked i) ((reply_by ∙ ap (λ b. reply_to capacity content (if b then Ok (command.Stat its_path) else Err refusal.BadCommand)) is) i))
              ∙ not_own (is_own entry) (λ own. true≢false (sym (its_number own) ∙ is))

    -- ---- one entry behind the other

    -- the files of these entries, if each is one as sessions make it
    abbrev owned : List PlainEntry → Option (List ℕ)
    owned [] = Some []
    owned (entry ∷ more) = with_file (if is_own entry then Some entry.id else None) (owned more)

    abbrev first_of : List PlainEntry → Option ListedName
    first_of [] = None
    first_of (entry ∷ more) = Some (listed entry)

    seam : (before more : List PlainEntry) → slice_get (map listed (before ++ more)) (length before) ≡ first_of more
    seam [] [] = refl
    seam [] (entry ∷ more) = refl
    seam (entry ∷ before) more = seam before more

    next_is : (before more : List PlainEntry) (first entries : Told) (done : List Told) → entries.reply ≡ reply.Listing (map listed (before ++ more)) → length done ≡ length before → next_of (first ∷ entries ∷ done) ≡ option_map entry_command (first_of more)
    next_is before more first entries done is long =
        ap (λ (r : Reply). entry_at r (length done)) is ∙ ap (λ n. option_map entry_command (slice_get (map listed (before ++ more)) n)) long
        ∙ ap (λ (o : Option ListedName). option_map entry_command o) (seam before more)

    told_each : (before more : List PlainEntry) (first entries : Told) (done heard : List Told) → entries.reply ≡ reply.Listing (map listed (before ++ more)) → length done ≡ length before → InTurn (first ∷ entries ∷ done) heard → AllByRecursion IsSo heard
        → ((entry : PlainEntry) → Contains more entry → Contains tree.entries entry × (in_folder entry ≡ true)) → all_own heard ≡ owned more
    told_each before [] first entries done [] is long turn so each = refl
    told_each before [] first entries done (told ∷ later) is long turn so each = absurd (no_command told.command (sym (next_is before [] first entries done is long) ∙ turn.0))
    told_each before (entry ∷ more) first entries done [] is long turn so each = absurd (no_command (entry_command (listed entry)) (sym turn ∙ next_is before (entry ∷ more) first entries done is long))
    told_each before (entry ∷ more) first entries done (told ∷ later) is long turn so each =
        let it = each entry (at_front entry more) in
        let asked : told.command ≡ command.Stat (keeping_name ∷ entry.name ∷ []) = ap (command_or told.command) (sym turn.0 ∙ next_is before (entry ∷ more) first entries done is long) in
        let rest = told_each (before ++ entry ∷ []) more first entries (done ++ told ∷ []) later (is ∙ ap (λ (l : List PlainEntry). reply.Listing (map listed l)) (sym (append_assoc before (entry ∷ []) more)))
        (omega (arith, length-append done (told ∷ []), length-append before (entry ∷ []), long)) turn.1 so.1 (λ other there. each other (behind entry other more there)) in
        λ i. with_file (its_file entry it.0 it.1 told asked so.0 i) (rest i)

    -- all of them
    folder_files : (first entries : Told) (heard : List Told) → InTurn (first ∷ []) (entries ∷ heard) → IsSo entries → AllByRecursion IsSo heard → next_of (first ∷ []) ≡ Some (command.Ls keeping_path) → all_own heard ≡ owned (entries_in tree folder.id)
    folder_files first entries heard turn so right next =
        let asked : entries.command ≡ command.Ls keeping_path = ap (command_or entries.command) (sym turn.0 ∙ next) in
        told_each [] (entries_in tree folder.id) first entries [] heard (so ∙ ap (λ (it : Command). reply_to capacity content (taken it)) asked ∙ list_is) refl turn.1 right (λ entry there. kept_cases in_folder tree.entries entry there)

    -- ---- taken or not

    abbrev not_own_one : PlainEntry → Bool
    not_own_one entry = not (is_own entry)

    owned_by : (entries : List PlainEntry) → (b : Bool) → list_any not_own_one entries ≡ b → owned entries ≡ (if b then None else Some (map (λ (entry : PlainEntry). entry.id) entries))
    owned_by [] b is = ap (λ c. if c then None else Some []) is
    owned_by (entry ∷ more) b is =
        ap (with_file (if is_own entry then Some entry.id else None)) (owned_by more (list_any not_own_one more) refl)
        ∙ so (is_own entry) (list_any not_own_one more)
        ∙ ap (λ c. if c then None else Some (entry.id ∷ map (λ (other : PlainEntry). other.id) more)) is
      where
        so : (a c : Bool) → with_file (if a then Some entry.id else None) (if c then None else Some (map (λ (other : PlainEntry). other.id) more)) ≡ (if not a || c then None else Some (entry.id ∷ map (λ (other : PlainEntry). other.id) more))
        so true true = refl
        so true false = refl
        so false true = refl
        so false false = refl

    releases_by : (entries : List PlainEntry) → list_any not_own_one entries ≡ false → map (λ (entry : PlainEntry). command.Rm (keeping_name ∷ entry.name ∷ [])) entries ≡ map release (map (λ (entry : PlainEntry). entry.id) entries)
    releases_by [] none = refl
    releases_by (entry ∷ more) none =
        let both = neither (is_own entry) (list_any not_own_one more) none in
        let named = (bytes_eq-Decides entry.name (decimal entry.id)).0 (second (not entry.folder) (bytes_eq entry.name (decimal entry.id)) both.0) in
        (λ i. command.Rm (keeping_name ∷ named i ∷ []) ∷ releases_by more both.1 i)
      where
        neither : (a c : Bool) → (not a || c) ≡ false → (a ≡ true) × (c ≡ false)
        neither true c is = (refl, is)
        neither false c is = absurd (true≢false is)

        second : (a c : Bool) → (a && c) ≡ true → c ≡ true
        second true c is = is
        second false c is = absurd (true≢false (sym is))

  -- ---- all that was heard

  abbrev Finds : Option (List ℕ) → Type 0
  Finds found = FindsFiles tree (option_map reverse found)

  taken_is : (o : Option PlainEntry) → keeping_entry tree ≡ o → is_taken tree ≡ is_taken_by tree o
  taken_is o is = ap (is_taken_by tree) is

  pub found_files : (heard : List Told) → InTurn [] heard → AllByRecursion IsSo heard → Finds (left_by heard)
  found_files [] none right = absurd (no_command (command.Stat keeping_path) (sym none))
  found_files (first ∷ heard) turn right = by (keeping_entry tree) refl
    where
      asked : first.command ≡ command.Stat keeping_path
      asked = ap (command_or first.command) (sym turn.0)

      told : first.reply ≡ (on tree (at_entry (keeping_entry tree)) facts_step).0
      told = right.0 ∙ ap (λ (it : Command). reply_to capacity content (taken it)) asked ∙ folder_look

      by : (o : Option PlainEntry) → keeping_entry tree ≡ o → Finds (left_by (first ∷ heard))
      by None none =
          let says : first.reply ≡ reply.No refusal.NotFound = told ∙ ap (λ (o : Option PlainEntry). (on tree (at_entry o) facts_step).0) none in
          subst (λ (r : Reply). Finds (left_behind (folder_kind r) (first ∷ heard))) (sym says)
          (taken_is None none, ap (λ (o : Option PlainEntry). map (λ (entry : PlainEntry). command.Rm (keeping_name ∷ entry.name ∷ [])) (kept (stands_in o) tree.entries)) none ∙ ap (map (λ (entry : PlainEntry). command.Rm (keeping_name ∷ entry.name ∷ []))) (none_kept tree.entries))
        where
          none_kept : (entries : List PlainEntry) → kept (stands_in None) entries ≡ []
          none_kept [] = refl
          none_kept (entry ∷ more) = none_kept more
      by (Some folder) found =
          let it = has_facts folder (found_some (is_at 2 keeping_name) tree.entries folder found).0 in
          let says : first.reply ≡ reply.Facts (facts_of tree it.node) =
          told ∙ ap (λ (o : Option PlainEntry). (on tree (at_entry o) facts_step).0) found ∙ ap (λ (o : Option PlainNode). (on tree (ok_or o refusal.NotFound) facts_step).0) it.found in
          let kind_is : folder_kind first.reply ≡ Some folder.folder = ap folder_kind says ∙ ap Some it.folder in
          subst (λ (k : Option Bool). Finds (left_behind k (first ∷ heard))) (sym kind_is) (of_kind folder found kind_is folder.folder refl)
        where
          of_kind : (folder : PlainEntry) → keeping_entry tree ≡ Some folder → folder_kind first.reply ≡ Some folder.folder → (b : Bool) → folder.folder ≡ b → Finds (left_behind (Some folder.folder) (first ∷ heard))
          of_kind folder found kind_is false kind = subst (λ b. Finds (left_behind (Some b) (first ∷ heard))) (sym kind) (taken_is (Some folder) found ∙ ap (λ b. not b || list_any (λ (keeper : PlainEntry). not (is_own keeper)) (keepers tree)) kind)
          of_kind folder found kind_is true kind = subst (λ b. Finds (left_behind (Some b) (first ∷ heard))) (sym kind) (behind_it heard turn.1 right.1)
            where
              next : next_of (first ∷ []) ≡ Some (command.Ls keeping_path)
              next = ap entries_command (kind_is ∙ ap Some kind)

              behind_it : (later : List Told) → InTurn (first ∷ []) later → AllByRecursion IsSo later → Finds (all_own (drop 1 later))
              behind_it [] none nothing = absurd (no_command (command.Ls keeping_path) (sym none ∙ next))
              behind_it (entries ∷ each) asked_on so =
                  subst Finds (sym (folder_files folder found kind first entries each asked_on so.0 so.1 next)) (by_own (list_any (not_own_one folder found kind) (entries_in tree folder.id)) refl)
                where
                  taken_by_own : is_taken tree ≡ list_any (not_own_one folder found kind) (entries_in tree folder.id)
                  taken_by_own = taken_is (Some folder) found ∙ ap (λ b. not b || list_any (λ (keeper : PlainEntry). not (is_own keeper)) (keepers tree)) kind ∙ ap (list_any (λ (keeper : PlainEntry). not (is_own keeper))) (keepers_are folder found kind)

                  by_own : (b : Bool) → list_any (not_own_one folder found kind) (entries_in tree folder.id) ≡ b → Finds (owned folder found kind (entries_in tree folder.id))
                  by_own true is = subst Finds (sym (owned_by folder found kind (entries_in tree folder.id) true is)) (taken_by_own ∙ is)
                  by_own false is =
                      subst Finds (sym (owned_by folder found kind (entries_in tree folder.id) false is)) (
                        taken_by_own ∙ is,
                        ap (map (λ (entry : PlainEntry). command.Rm (keeping_name ∷ entry.name ∷ []))) (keepers_are folder found kind) ∙ releases_by folder found kind (entries_in tree folder.id) is
                            ∙ ap (map release) (sym (reverse-reverse (map (λ (entry : PlainEntry). entry.id) (entries_in tree folder.id)))),
                      )

  -- ---- of a look that came to its end

  heard_map : (heard : List Told) → map (λ (it : Heard). it.command) (map heard_of heard) ≡ map command_in heard
  heard_map [] = refl
  heard_map (told ∷ more) = ap (λ (l : List Command). told.command ∷ l) (heard_map more)

  all_so : (heard : List Told) → AllByRecursion (IsRight capacity content) (map heard_of heard) → AllByRecursion IsSo heard
  all_so [] all = all
  all_so (told ∷ more) all = (all.0, all_so more all.1)

  pub look_finds : (heard : List Told) (waiting : Bool) → Ends begun (talk_of heard waiting) → HearsRight capacity content begun (talk_of heard waiting) → Finds (left_by heard)
  look_finds heard true ends right = absurd (true≢false (sym ends.ended))
  look_finds heard false ends right =
      found_files heard
      (in_turn [] heard (sym (append-nil (asked_before [] heard)) ∙ ends.each.asked ∙ ap (map (λ (it : Heard). it.command)) (sym ends.each.heard) ∙ heard_map heard) (none_next (next_of heard) ends.ended))
      (all_so heard (subst (AllByRecursion (IsRight capacity content)) (sym right.heard) right.right))
    where
      none_next : (next : Option Command) → (true && not (is_some next)) ≡ true → next ≡ None
      none_next None is = refl
      none_next (Some asked) is = absurd (true≢false (sym is))

-- the same of the list that is handed over
pub finds_of : {V : Type 0} (tree : PlainTree) (found : Option (List ℕ)) (items : V → List ℕ) (given : Option V) → FindsFiles tree (option_map reverse found) → MatchOption given (found ≡ None) (λ files. found ≡ Some (reverse (items files)))
    → MatchOption given (FindsFiles tree None) (λ files. FindsFiles tree (Some (items files)))
finds_of tree found items None finds is = subst (λ (o : Option (List ℕ)). FindsFiles tree (option_map reverse o)) is finds
finds_of tree found items (Some files) finds is =
    subst (λ (l : List ℕ). FindsFiles tree (Some l)) (reverse-reverse (items files)) (subst (λ (o : Option (List ℕ)). FindsFiles tree (option_map reverse o)) is finds)
