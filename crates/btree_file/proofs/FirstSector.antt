-- The first sector of a fork's first node, put by itself where each of that node's sectors was put before.
use Rattle.std.proofs.Common.{◌≡◌, ◌≢◌, ℕ, ◌+◌, ◌*◌, ◌<◌, Bool, true, false, ◌==◌, ◌||◌, IsTrue, List, [], ◌∷◌, ◌++◌, length, get_or, take, drop, slice_get, Some, inl, inr, refl, sym, ◌∙◌, ap, subst, arith, ⊎_elim}
use Rattle.std.specs.List.{Contains, list_all}
use Rattle.std.proofs.Math.Seq.{drop-append_seam}
use Rattle.std.proofs.lemmas.Bool.{cases_eq, cases_Bool, eqb-true, true≢false}
use Rattle.std.proofs.lemmas.List.{get_or-drop, get_or-set_same, length-drop, length-take, length-set, take-append-drop}
use Rattle.std.proofs.lemmas.List.Folds.{list_all_at}
use Rattle.std.proofs.lemmas.Option.{get_or_from_slice_get, slice_get_within}
use Rattle.fork_map.specs.Nodes.{bytes_of, node_of}
use Rattle.sector_disk.specs.Clock.{TimePasses}
use Rattle.sector_disk.specs.Lists.{Content, sector}
use Rattle.sector_disk.specs.Space.{Space, SameSpace, TakesRoom, Puts, LeavesDurable}
use Rattle.sector_disk.proofs.PutLaws.{put_other}
use Rattle.btree_file.specs.Frame.{PutsWithin}
use Rattle.btree_file.specs.Place.{AreApart, sectors_at}
use Rattle.btree_file.specs.Putting.{TakesRoomFor}
use Rattle.btree_file.proofs.NodeLaws.{apart_nodes, same_bytes}
use Rattle.btree_file.proofs.PlaceLaws.{at_place, next_sector, stands}

all_at : (p : ℕ → Bool) (xs : List ℕ) → list_all p xs ≡ true → (s : ℕ) → Contains xs s → p s ≡ true
all_at p xs all s c =
    let at = stands xs s c in
    ⊎_elim (λ (t : p s ≡ true). t) (λ (f : p s ≡ false). absurd (true≢false (sym all ∙ list_all_at p xs at.0 0 at.1 (ap p at.2 ∙ f)))) (cases_Bool (p s))

put_there : (now new : Space) (at : ℕ) (value : List ℕ) → Puts now at value new → at < length now.content → sector new.content at ≡ value
put_there now new at value puts inside = ap (λ (c : Content). sector c at) puts.content ∙ get_or-set_same now.content at value [] inside

or_known : (a b : Bool) → (a ≡ true → b ≡ true) → (a || b) ≡ b
or_known true b known = sym (known refl)
or_known false b known = refl

module _ (fork : List ℕ) (per at : ℕ) (some : 0 < per) (there : slice_get fork 0 ≡ Some at) where
  -- the node's sectors: the first, and those behind it
  split : sectors_at fork per 0 ≡ at ∷ drop 1 (sectors_at fork per 0)
  split =
      let place : 0 * per + 0 ≡ 0 = omega arith in
      next_sector fork per 0 0 at some (ap (λ k. slice_get fork k) place ∙ there)

  pub first_inside : Contains (sectors_at fork per 0) at
  first_inside = subst (λ (l : List ℕ). Contains l at) (sym split) (0, omega arith, refl)

  pub first_in_fork : Contains fork at
  first_in_fork = (0, slice_get_within fork 0 at there, get_or_from_slice_get fork 0 at at there)

  pub was_put : (put : ℕ → Bool) → list_all put (sectors_at fork per 0) ≡ true → put at ≡ true
  was_put put all = all_at put (sectors_at fork per 0) all at first_inside

  -- the first stands behind itself no more
  behind_first : AreApart fork → (s : ℕ) → Contains (drop 1 (sectors_at fork per 0)) s → s ≢ at
  behind_first apart s c = λ e.
      let xs = sectors_at fork per 0 in
      let it = stands (drop 1 xs) s c in
      let low : 1 + it.0 < length xs = omega (arith, it.1, length-drop 1 xs) in
      let inside : 1 + it.0 < per = omega (arith, low, length-take per (drop (0 * per) fork)) in
      let short : 0 * per + (1 + it.0) < length fork = omega (arith, low, length-take per (drop (0 * per) fork), length-drop (0 * per) fork) in
      let one : get_or fork (0 * per + (1 + it.0)) 0 ≡ s = sym (at_place fork per 0 (1 + it.0) inside) ∙ sym (get_or-drop 1 xs it.0 0) ∙ it.2 in
      let same : 0 * per + (1 + it.0) ≡ 0 = apart (0 * per + (1 + it.0)) 0 short (omega (arith, short)) (one ∙ e ∙ sym (get_or_from_slice_get fork 0 at 0 there)) in
      absurd (omega (arith, same))

  module _ (header value : List ℕ) (old new : Space) (apart : AreApart fork) (puts : Puts old at value new) where
    -- the node has the bytes of the header, where they were the same behind the first 512
    pub node_after : at < length old.content → length (sector old.content at) ≡ 512 → drop 512 (node_of old.content fork per 0) ≡ drop 512 header → value ≡ take 512 header → node_of new.content fork per 0 ≡ header
    node_after inside whole same is =
        let rest = drop 1 (sectors_at fork per 0) in
        let behind : bytes_of new.content rest ≡ bytes_of old.content rest = same_bytes old.content new.content rest (λ s c. put_other old new at value s puts (behind_first apart s c)) in
        let was : node_of old.content fork per 0 ≡ sector old.content at ++ bytes_of old.content rest = ap (λ (xs : List ℕ). bytes_of old.content xs) split in
        let tail : drop 512 (node_of old.content fork per 0) ≡ bytes_of old.content rest =
        ap (λ (l : List ℕ). drop 512 l) was ∙ ap (λ n. drop n (sector old.content at ++ bytes_of old.content rest)) (sym whole) ∙ drop-append_seam (sector old.content at) (bytes_of old.content rest) in
        let now : node_of new.content fork per 0 ≡ sector new.content at ++ bytes_of new.content rest = ap (λ (xs : List ℕ). bytes_of new.content xs) split in
        now ∙ ap (λ (l : List ℕ). l ++ bytes_of new.content rest) (put_there old new at value puts inside ∙ is)
        ∙ ap (λ (l : List ℕ). take 512 header ++ l) (behind ∙ sym tail ∙ same) ∙ take-append-drop 512 header

    -- and the other nodes are as they were
    pub nodes_beside : (m : ℕ) → m ≢ 0 → node_of new.content fork per m ≡ node_of old.content fork per m
    nodes_beside m other = same_bytes old.content new.content (sectors_at fork per m)
        (λ s c. put_other old new at value s puts (λ e. other (apart_nodes fork per m 0 at apart (subst (λ k. Contains (sectors_at fork per m) k) e c) first_inside)))

  module _ (value : List ℕ) (old new : Space) (all : list_all old.put (sectors_at fork per 0) ≡ true) (room : TakesRoom old at new) where
    put_same : (s : ℕ) → new.put s ≡ old.put s
    put_same s = room.put s ∙ or_known (s == at) (old.put s) (λ t. ap old.put (eqb-true s at t) ∙ was_put old.put all)

    spare_same : new.spare ≡ old.spare
    spare_same = let was : old.put at ≡ true = was_put old.put all in room.spare ∙ rw was refl

    -- a sector that was put takes no room
    pub no_room : TakesRoomFor (sectors_at fork per 0) old new
    no_room = record {
      put = λ s. (λ t. inl (sym (put_same s) ∙ t), λ e. ⊎_elim (λ o. put_same s ∙ o) (λ c. put_same s ∙ all_at old.put (sectors_at fork per 0) all s c) e);
      spare = omega (arith, spare_same);
      no_more = omega (arith, spare_same);
    }

    pub first_within : length value ≡ 512 → (IsTrue old.tells → at < length old.content) → (IsTrue old.tells → Puts old at value new) → SameSpace old new
        → (IsTrue old.tells → TimePasses old.clock new.clock (LeavesDurable new)) → new.faults ≡ old.faults → PutsWithin fork old new
    first_within size inside puts same time faults = record {
      same = same;
      content = λ tells. record {
        size = ap (λ (c : Content). length c) (puts tells).content ∙ length-set old.content at value;
        each = λ s. ⊎_elim (λ (e : s ≡ at). inr (subst (λ k. Contains fork k) (sym e) first_in_fork)) (λ (other : s ≢ at). inl (put_other old new at value s (puts tells) other)) (cases_eq s at);
      };
      sizes = λ tells s. ⊎_elim
          (λ (e : s ≡ at). inr (ap (λ k. length (sector new.content k)) e ∙ ap (λ (l : List ℕ). length l) (put_there old new at value (puts tells) (inside tells)) ∙ size))
          (λ (other : s ≢ at). inl (ap (λ (l : List ℕ). length l) (put_other old new at value s (puts tells) other)))
          (cases_eq s at);
      durable = λ tells. (puts tells).durable;
      spilled = λ tells. (puts tells).spilled;
      live = λ tells s l. ⊎_elim (λ o. inl o) (λ e. inr (subst (λ k. Contains fork k) (sym e) first_in_fork)) (((puts tells).live s).0 l);
      still_live = λ tells s l. ((puts tells).live s).1 (inl l);
      closed = λ tells. (puts tells).closed;
      put = λ s. inl (put_same s);
      still_put = λ s t. put_same s ∙ t;
      spare = omega (arith, spare_same);
      faults = omega (arith, faults);
      time = time;
    }
