-- What is seen under a name in a folder of the tree, by what a volume tells of it.
use Rattle.std.proofs.Common.{◌≡◌, ◌⊎◌, ◌≤◌, ℕ, Bool, true, false, List, [], ◌∷◌, inl, inr, length, refl, sym, ◌∙◌, ap, subst, arith}
use Rattle.std.specs.Prelude.{◌&&◌, ◌||◌, ◌==◌, Contains, Option, Some, None, Result, Ok, Err, IfOk, bytes_eq, nat_lt, if◌then◌else◌}
use Rattle.std.specs.List.{flat_map}
use Rattle.std.proofs.lemmas.Bool.{and_parts, eqb-true, ltb-true, true≢false}
use Rattle.std.proofs.lemmas.Slice.Eq.{bytes_eq-Decides}
use Rattle.hx_bytes.specs.declared.faults.Trouble.{Trouble}
use Rattle.jnl_format.specs.Recovery.{Content}
use Rattle.hfs_model.specs.Extras.{entry_sight, sight_in}
use Rattle.hfs_model.specs.Plain.{entry_at, is_at}
use Rattle.hfs_model.specs.Step.{is_private_name}
use Rattle.hfs_model.specs.declared.kinds.Sight.{Sight}
use Rattle.hfs_model.specs.declared.kinds.Sight.TheVariants as sight
use Rattle.hfs_model.specs.declared.plain.PlainEntry.{PlainEntry}
use Rattle.hfs_model.specs.declared.plain.PlainTree.{PlainTree}
use Rattle.hfs_volume.specs.Content.{records_of, volume_of}
use Rattle.hfs_volume.specs.TreeOf.{seen_entry, tree_in, tree_of}
use Rattle.hfs_volume.proofs.Flat.{found_some}
use Rattle.hfs_volume.proofs.Reaching.{is_seen_entry, seen_shows}
use Rattle.hfs_serving.specs.Looks.{IsSeenIn}
use Rattle.link_kinds.specs.Lookers.{front_of, front_seen}
use Rattle.link_kinds.specs.Resolves.{is_unseen, sight_at, sight_of}
use Rattle.link_kinds.proofs.Fronts.{front_at}
use Rattle.open_files.specs.Keeping.{keeping_name}
use Rattle.session_lines.specs.Lookings.{IsSeenUnder, IsWithin, is_outside}

-- the entries of the tree are those of records that are seen
entries_are : (content : Content) → (tree_of content).entries ≡ flat_map (seen_entry (records_of (volume_of content))) (records_of (volume_of content))
unfolding tree_of tree_in
entries_are content = refl

-- the tree has none of the volume's own names
own_absent : (content : Content) (parent : ℕ) (name : List ℕ) → ((parent == 2) && is_private_name name) ≡ true → sight_in (tree_of content) parent name ≡ sight.Absent
own_absent content parent name own = by (entry_at (tree_of content) parent name) refl
  where
    by : (o : Option PlainEntry) → entry_at (tree_of content) parent name ≡ o → entry_sight (tree_of content) o ≡ sight.Absent
    by None found = refl
    by (Some entry) found =
        let it = found_some (is_at parent name) (tree_of content).entries entry found in
        let seen = is_seen_entry (records_of (volume_of content)) entry (subst (λ (l : List PlainEntry). Contains l entry) (entries_are content) it.0) in
        let tests = and_parts (entry.parent == parent) (bytes_eq entry.name name) it.1 in
        let shows = seen_shows (records_of (volume_of content)) seen.placed seen.seen in
        let there = ap (λ (x : PlainEntry). x.parent) seen.is ∙ eqb-true entry.parent parent tests.0 in
        let named = ap (λ (x : PlainEntry). x.name) seen.is ∙ (bytes_eq-Decides entry.name name).0 tests.1 in
        absurd (true≢false (sym own ∙ (λ i. (sym there i == 2) && is_private_name (sym named i)) ∙ shows.not_own))

-- a name for which the volume isn't asked is absent
pub outside_seen : (tree : PlainTree) (parent : ℕ) (name : List ℕ) → is_outside parent name ≡ true → IsSeenUnder tree parent name sight.Absent
outside_seen tree parent name outside within = by ((parent == 2) && bytes_eq name keeping_name) refl outside
  where
    by : (b : Bool) → ((parent == 2) && bytes_eq name keeping_name) ≡ b → (b || nat_lt 255 (length name)) ≡ true → sight.Absent ≡ front_seen (sight_at tree) parent name
    by false is long = let more = ltb-true 255 (length name) long in absurd (omega (arith, more, within.1))
    by true is out =
        let both = and_parts (parent == 2) (bytes_eq name keeping_name) is in
        sym (ap (λ b. front_of (if b then sight.Absent else sight_of tree (entry_at tree parent name))) ((λ i. both.0 i && (is_private_name name || both.1 i)) ∙ or_true (is_private_name name)))
      where
        or_true : (b : Bool) → (true && (b || true)) ≡ true
        or_true true = refl
        or_true false = refl

-- of another one it is what the volume tells
inside_seen : (content : Content) (parent : ℕ) (name : List ℕ) → is_outside parent name ≡ false → sight_in (tree_of content) parent name ≡ front_seen (sight_at (tree_of content)) parent name
inside_seen content parent name inside = by (is_unseen parent name) refl
  where
    private_is : (a b c d : Bool) → (a && (b || c)) ≡ true → ((a && c) || d) ≡ false → (a && b) ≡ true
    private_is true true c d is out = refl
    private_is true false true d is out = absurd (true≢false out)
    private_is true false false d is out = absurd (true≢false (sym is))
    private_is false b c d is out = absurd (true≢false (sym is))

    by : (u : Bool) → is_unseen parent name ≡ u → sight_in (tree_of content) parent name ≡ front_seen (sight_at (tree_of content)) parent name
    by false seen = front_at (tree_of content) parent name seen
    by true unseen =
        own_absent content parent name (private_is (parent == 2) (is_private_name name) (bytes_eq name keeping_name) (nat_lt 255 (length name)) unseen inside)
        ∙ sym (ap (λ b. front_of (if b then sight.Absent else sight_of (tree_of content) (entry_at (tree_of content) parent name))) unseen)

pub told_seen : (content : Content) (parent : ℕ) (name : List ℕ) → is_outside parent name ≡ false → (found : Result Sight Trouble) → IfOk found (IsSeenIn (tree_of content) parent name) → IfOk found (IsSeenUnder (tree_of content) parent name)
told_seen content parent name inside (Ok found) seen = λ within. seen within.0.0 within.0.1 within.0.2 ∙ inside_seen content parent name inside
told_seen content parent name inside (Err why) seen = tt
