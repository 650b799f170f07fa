-- What the lists of a transaction are for those who read them: each is as it must be, and they stand for the puts.
use Rattle.std.proofs.Common.{◌≡◌, ◌⊎◌, ℕ, zero, suc, ◌+◌, ◌-◌, ◌*◌, ◌/◌, ◌^◌, ◌<◌, ◌≤◌, Bool, true, false, not, List, [], ◌++◌, length, take, drop, set, replicate, inl, inr, refl, sym, ◌∙◌, ap, arith, append_assoc, length-append, length-drop, eqb, cond}
use Rattle.std.specs.Prelude.{None, Some}
use Rattle.std.proofs.Math.Nat.{mul-le-mul_left}
use Rattle.std.proofs.lemmas.Bool.{cases_lt, lt-leb, eq-eqb}
use Rattle.std.proofs.lemmas.Grind.{fold-append}
use Rattle.std.proofs.lemmas.List.{length-take, take_at, take-append-drop, nil_from_length}
use Rattle.std.proofs.lemmas.List.Elements.{All-take, All-drop, All-weaker}
use Rattle.std.specs.List.{All}
use Rattle.hx_bytes.specs.declared.fields.Order.{Order}
use Rattle.jnl_format.specs.List.{list_bytes, list_head_of, is_list_head}
use Rattle.jnl_format.specs.Recovery.{Content, with_home, with_homes}
use Rattle.jnl_format.specs.Text.{bytes_at, are_blocks, block_bytes, head_at, is_list, bad_list, entry_homes, text_homes}
use Rattle.jnl_format.specs.declared.blocks.Home.{Home}
use Rattle.jnl_format.specs.declared.blocks.Volume.{Volume}
use Rattle.jnl_format.specs.declared.structures.ListHead.{ListHead}
use Rattle.jnl_format.proofs.Lists.{IsList, list_from, none_bad, first_homes, no_homes}
use Rattle.jnl_store.specs.Lists.{entries_bytes, blocks_bytes, list_header, list_text, lists_homes, lists_of, lists_text, list_count, most_puts, text_sectors, head_of, first_entry, IsForm, IsFitPut}
use Rattle.jnl_store.specs.Overlay.{overlay}
use Rattle.jnl_store.specs.declared.form.ListForm.{ListForm}
use Rattle.jnl_store.specs.declared.puts.Put.{Put}
use Rattle.jnl_store.proofs.ListsBack.{head_back, head_accepted}
use Rattle.jnl_store.proofs.ListsBytes.{bytes_behind}
use Rattle.jnl_store.proofs.ListsCount.{IsCount, count_is}
use Rattle.jnl_store.proofs.ListsHeader.{length-list_bytes}
use Rattle.jnl_store.proofs.ListsStanding.{IsSmall, Stand, stand, blocks_good, blocks_size, homes_are, homes_listed, list_begins}
use Rattle.jnl_store.proofs.ListsText.{length-list_header, length-list_text, length-lists_of, some_puts}

pub overlay-append : (a b : List Put) (content : Content) → overlay (a ++ b) content ≡ overlay b (overlay a content)
overlay-append a b content = fold-append (λ (under : Content) (put : Put). set under put.at put.bytes) content a b

pub with_homes-append : (text : List ℕ) (a b : List Home) (content : Content) → with_homes text (a ++ b) content ≡ with_homes text b (with_homes text a content)
with_homes-append text a b content = fold-append (with_home text) content a b

-- a list of these puts stands in a text
record HasList (order : Order) (blhdr : ℕ) (text : List ℕ) (at : ℕ) (last : Bool) (ps : List Put) : Type 0 where
  head : head_at order text at ≡ head_of blhdr last ps
  accepted : is_list_head order blhdr (bytes_at text at 32) ≡ true
  there : Stand order text (at + 32) (at + blhdr) ps
  fits : at + blhdr + 512 * length ps ≤ length text

zero_is_last : (last : Bool) → eqb (first_entry last).next 0 ≡ last
zero_is_last true = refl
zero_is_last false = refl

next_small : (last : Bool) → (first_entry last).next < 2 ^ 32
next_small true = omega arith
next_small false = omega arith

module _ (form : ListForm) (is : IsForm form) where
  abbrev most : ℕ
  most = most_puts form.blhdr

  has_list : (before : List ℕ) (last : Bool) (ps : List Put) (rest text : List ℕ) (at : ℕ) → length ps ≤ most → All IsSmall ps → text ≡ before ++ (list_text form.order form.blhdr last ps ++ rest) → length before ≡ at → HasList form.order form.blhdr text at last ps
  has_list before last ps rest text at few small whole at_is =
      let o = form.order in
      let blhdr = form.blhdr in
      let head = list_bytes (head_of blhdr last ps) (first_entry last) o blhdr in
      let zeros : List ℕ = replicate (blhdr - 32 - 16 * length ps) 0 in
      let blocks = blocks_bytes ps in
      let header = list_header o blhdr last ps in
      let thirty_two : length head ≡ 32 = length-list_bytes (head_of blhdr last ps) (first_entry last) o blhdr in
      let long : length header ≡ blhdr = length-list_header o blhdr last ps (omega (arith, is.least)) in
      let behind_head : text ≡ before ++ (head ++ (entries_bytes o ps ++ (zeros ++ (blocks ++ rest)))) = whole ∙ simp append_assoc in
      let entries : text ≡ (before ++ head) ++ (entries_bytes o ps ++ (zeros ++ (blocks ++ rest))) = behind_head ∙ sym (append_assoc before head (entries_bytes o ps ++ (zeros ++ (blocks ++ rest)))) in
      let bodies : text ≡ (before ++ header) ++ (blocks ++ rest) = whole ∙ ap (λ (l : List ℕ). before ++ l) (append_assoc header blocks rest) ∙ sym (append_assoc before header (blocks ++ rest)) in
      let front : bytes_at text at 32 ≡ head =
      ap (λ (l : List ℕ). bytes_at l at 32) behind_head ∙ bytes_behind before (head ++ (entries_bytes o ps ++ (zeros ++ (blocks ++ rest)))) 0 32 at at at_is (omega arith)
      ∙ take_at head (entries_bytes o ps ++ (zeros ++ (blocks ++ rest))) 32 thirty_two in
      record {
        head = ap (list_head_of o) front ∙ head_back o blhdr (head_of blhdr last ps) (first_entry last) (omega (arith, few, is.most)) (omega (arith, few, is.most)) (next_small last) (zero_is_last last);
        accepted = ap (is_list_head o blhdr) front ∙ head_accepted o blhdr (head_of blhdr last ps) (first_entry last) (omega (arith, few, is.most)) (omega arith) (omega (arith, few, is.least, is.whole));
        there =
            stand o ps (before ++ head) (zeros ++ (blocks ++ rest)) (before ++ header) rest text (at + 32) (at + blhdr) small
            entries (omega (arith, length-append before head, thirty_two, at_is)) bodies (omega (arith, length-append before header, long, at_is));
        fits =
            omega
            (arith, ap length whole, length-append before (list_text o blhdr last ps ++ rest), length-append (list_text o blhdr last ps) rest, length-list_text o blhdr last ps (omega (arith, few, is.least, is.whole)), at_is);
      }

  -- it is as it must be
  list_good : (volume : Volume) (text : List ℕ) (at : ℕ) (last : Bool) (ps : List Put) → All (IsFitPut volume) ps → (last ≡ true) ⊎ (at + form.blhdr + 512 * length ps < length text) → HasList form.order form.blhdr text at last ps → IsList volume form.order form.blhdr text at
  list_good volume text at last ps fit ends h =
      let head = head_at form.order text at in
      let used : head.used ≡ form.blhdr + 512 * length ps = ap (λ (x : ListHead). x.used) h.head in
      let count : head.entries - 1 ≡ length ps = ap (λ (x : ListHead). x.entries - 1) h.head ∙ omega arith in
      let last_is : head.last ≡ last = ap (λ (x : ListHead). x.last) h.head in
      record {
        header = omega (arith, h.fits);
        head = h.accepted;
        used = used ∙ sym (ap (λ n. form.blhdr + block_bytes form.order text (at + 32) n) count ∙ ap (λ n. form.blhdr + n) (blocks_size form.order text ps (at + 32) (at + form.blhdr) h.there));
        inside = omega (arith, used, h.fits);
        blocks = ap (λ n. are_blocks volume form.order text (at + 32) (at + form.blhdr) n) count ∙ blocks_good volume form.order text ps (at + 32) (at + form.blhdr) fit h.there;
        last = elim ends [ inl e ↦ inl (last_is ∙ e) | inr more ↦ inr (omega (arith, used, more)) ];
      }

  -- the first of several lists, where others follow it, and where none does
  ends_so : (text rest : List ℕ) (at more size : ℕ) (puts : List Put) → IsCount most (length puts) (suc more) → at + size + length rest ≡ length text → length rest ≡ 512 * (length (drop most puts) + form.blhdr / 512 * more) → (eqb more 0 ≡ true) ⊎ (at + size < length text)
  ends_so text rest at more size puts count all long = elim (cases_lt 0 more) [
    | inl another ↦
        let one : form.blhdr / 512 * 1 ≤ form.blhdr / 512 * more = mul-le-mul_left (form.blhdr / 512) another in
        inr (omega (arith, one, all, long, is.least))
    | inr none ↦ inl (eq-eqb more 0 (omega arith))
  ]

  -- the lists behind the first
  rest_count : (more : ℕ) (puts : List Put) → IsCount most (length puts) (suc more) → IsCount most (length (drop most puts)) more
  rest_count more puts count = elim (cases_lt most (length puts)) [
    | inl several ↦ record { enough = omega (arith, count.enough, length-drop most puts); needed = omega (arith, count.needed, several, length-drop most puts) }
    | inr one ↦
        let only : more ≡ 0 = elim (cases_lt 0 more) [ inl another ↦ absurd (omega (arith, mul-le-mul_left most another, count.needed)) | inr none ↦ omega arith ] in
        record { enough = omega (arith, one, length-drop most puts); needed = omega (arith, ap (λ n. most * n) only, some_puts form is) }
  ]

  -- what is known of a text of lists at its first: it stands there, the others behind it, and it is the last where there are none
  record Splits (text : List ℕ) (at more : ℕ) (puts : List Put) : Type 0 where
    first : HasList form.order form.blhdr text at (eqb more 0) (take most puts)
    ends : (eqb more 0 ≡ true) ⊎ (at + form.blhdr + 512 * length (take most puts) < length text)
    before : List ℕ
    behind : text ≡ before ++ lists_of form.order form.blhdr more (drop most puts)
    place : length before ≡ at + form.blhdr + 512 * length (take most puts)
    count : IsCount most (length (drop most puts)) more
    inside : at < length text

  splits : (before text : List ℕ) (at more : ℕ) (puts : List Put) → IsCount most (length puts) (suc more) → All IsSmall puts → text ≡ before ++ lists_of form.order form.blhdr (suc more) puts → length before ≡ at → Splits text at more puts
  splits before text at more puts count small whole at_is =
      let here = take most puts in
      let first = list_text form.order form.blhdr (eqb more 0) here in
      let rest = lists_of form.order form.blhdr more (drop most puts) in
      let few : length here ≤ most = omega (arith, length-take most puts) in
      let left : IsCount most (length (drop most puts)) more = rest_count more puts count in
      let size : length first ≡ form.blhdr + 512 * length here = length-list_text form.order form.blhdr (eqb more 0) here (omega (arith, few, is.least)) in
      let long : length rest ≡ 512 * (length (drop most puts) + form.blhdr / 512 * more) = length-lists_of form is more (drop most puts) left in
      let all : at + (form.blhdr + 512 * length here) + length rest ≡ length text = omega (arith, ap length whole, length-append before (first ++ rest), length-append first rest, size, at_is) in
      record {
        first = has_list before (eqb more 0) here rest text at few (All-take IsSmall most puts small) whole at_is;
        ends = elim (ends_so text rest at more (form.blhdr + 512 * length here) puts count all long) [ inl e ↦ inl e | inr e ↦ inr (omega (arith, e)) ];
        before = before ++ first;
        behind = whole ∙ sym (append_assoc before first rest);
        place = omega (arith, length-append before first, size, at_is);
        count = left;
        inside = omega (arith, all, is.least);
      }

  -- no list is bad
  pub none_is_bad : (volume : Volume) (fuel count : ℕ) (puts : List Put) (before text : List ℕ) (at : ℕ) → IsCount most (length puts) count → All (IsFitPut volume) puts → All IsSmall puts → text ≡ before ++ lists_of form.order form.blhdr count puts → length before ≡ at
      → bad_list volume form.order form.blhdr text fuel at ≡ None
  none_is_bad volume zero count puts before text at number fit small whole at_is = refl
  none_is_bad volume (suc fuel) zero puts before text at number fit small whole at_is = none_bad volume form.order form.blhdr text (suc fuel) at (omega (arith, ap length whole, length-append before [], at_is))
  none_is_bad volume (suc fuel) (suc more) puts before text at number fit small whole at_is =
      let s = splits before text at more puts number small whole at_is in
      let head = head_at form.order text at in
      let used : head.used ≡ form.blhdr + 512 * length (take most puts) = ap (λ (x : ListHead). x.used) s.first.head in
      let good = list_from volume form.order form.blhdr text at (list_good volume text at (eqb more 0) (take most puts) (All-take (IsFitPut volume) most puts fit) s.ends s.first) in
      ap (λ b. cond b None (cond (not (is_list volume form.order form.blhdr text at)) (Some at) (bad_list volume form.order form.blhdr text fuel (at + head.used)))) (lt-leb (length text) at s.inside)
      ∙ ap (λ b. cond (not b) (Some at) (bad_list volume form.order form.blhdr text fuel (at + head.used))) good
      ∙ none_is_bad volume fuel more (drop most puts) s.before text (at + head.used) s.count (All-drop (IsFitPut volume) most puts fit) (All-drop IsSmall most puts small) s.behind (omega (arith, s.place, used))

  -- where a list has an entry left, no put is behind it
  list_ends : (place : ℕ) (puts : List Put) → lists_homes form.blhdr place 0 (drop most puts) ≡ lists_homes form.blhdr place (most - length (take most puts)) (drop most puts)
  list_ends place puts = elim (cases_lt (length puts) most) [
    | inl few ↦
        let none : drop most puts ≡ [] = nil_from_length (drop most puts) (omega (arith, few, length-drop most puts)) in
        ap (λ (l : List Put). lists_homes form.blhdr place 0 l) none ∙ sym (ap (λ (l : List Put). lists_homes form.blhdr place (most - length (take most puts)) l) none)
    | inr full ↦ ap (λ n. lists_homes form.blhdr place n (drop most puts)) (let e : 0 ≡ most - length (take most puts) = omega (arith, full, length-take most puts) in e)
  ]

  -- the homes of all of them, in order
  pub all_listed : (volume : Volume) (fuel count : ℕ) (puts : List Put) (before text : List ℕ) (at : ℕ) → volume.sectors < 2 ^ 64 → count ≤ fuel → IsCount most (length puts) count → All (IsFitPut volume) puts → All IsSmall puts
      → text ≡ before ++ lists_of form.order form.blhdr count puts → length before ≡ at → text_homes form.order form.blhdr text fuel at ≡ lists_homes form.blhdr at 0 puts
  all_listed volume fuel zero puts before text at sectors enough number fit small whole at_is =
      no_homes form.order form.blhdr text fuel at (omega (arith, ap length whole, length-append before [], at_is))
      ∙ ap (λ (l : List Put). lists_homes form.blhdr at 0 l) (sym (nil_from_length puts (omega (arith, number.enough))))
  all_listed volume zero (suc more) puts before text at sectors enough number fit small whole at_is = absurd (omega (arith, enough))
  all_listed volume (suc fuel) (suc more) puts before text at sectors enough number fit small whole at_is =
      let s = splits before text at more puts number small whole at_is in
      let here = take most puts in
      let o = form.order in
      let blhdr = form.blhdr in
      let head = head_at o text at in
      let used : head.used ≡ blhdr + 512 * length here = ap (λ (x : ListHead). x.used) s.first.head in
      let count : head.entries - 1 ≡ length here = ap (λ (x : ListHead). x.entries - 1) s.first.head ∙ omega arith in
      let next = at + head.used in
      let rest = text_homes o blhdr text fuel next in
      let entries = entry_homes o text (at + 32) (at + blhdr) (length here) in
      first_homes o blhdr text fuel at s.inside
      ∙ ap (λ n. entry_homes o text (at + 32) (at + blhdr) n ++ rest) count
      ∙ ap (λ (hs : List Home). entries ++ hs) (all_listed volume fuel more (drop most puts) s.before text next sectors (omega (arith, enough)) s.count (All-drop (IsFitPut volume) most puts fit) (All-drop IsSmall most puts small) s.behind (omega (arith, s.place, used)))
      ∙ ap (λ n. entries ++ lists_homes blhdr n 0 (drop most puts)) (let e : at + head.used ≡ at + blhdr + 512 * length here = omega (arith, used) in e)
      ∙ ap (λ (hs : List Home). entries ++ hs) (list_ends (at + blhdr + 512 * length here) puts)
      ∙ homes_listed volume o text blhdr here (drop most puts) (at + 32) (at + blhdr) most sectors (omega (arith, length-take most puts)) (All-take (IsFitPut volume) most puts fit) s.first.there
      ∙ ap (λ (l : List Put). lists_homes blhdr (at + blhdr) most l) (take-append-drop most puts)
      ∙ sym (list_begins blhdr at puts (some_puts form is))

  -- all of them stand for the puts
  pub all_stand : (volume : Volume) (fuel count : ℕ) (puts : List Put) (before text : List ℕ) (at : ℕ) (content : Content) → volume.sectors < 2 ^ 64 → count ≤ fuel → IsCount most (length puts) count → All (IsFitPut volume) puts → All IsSmall puts
      → text ≡ before ++ lists_of form.order form.blhdr count puts → length before ≡ at → with_homes text (text_homes form.order form.blhdr text fuel at) content ≡ overlay puts content
  all_stand volume fuel zero puts before text at content sectors enough number fit small whole at_is =
      ap (λ (hs : List Home). with_homes text hs content) (no_homes form.order form.blhdr text fuel at (omega (arith, ap length whole, length-append before [], at_is)))
      ∙ ap (λ (l : List Put). overlay l content) (sym (nil_from_length puts (omega (arith, number.enough))))
  all_stand volume zero (suc more) puts before text at content sectors enough number fit small whole at_is = absurd (omega (arith, enough))
  all_stand volume (suc fuel) (suc more) puts before text at content sectors enough number fit small whole at_is =
      let s = splits before text at more puts number small whole at_is in
      let here = take most puts in
      let o = form.order in
      let blhdr = form.blhdr in
      let head = head_at o text at in
      let used : head.used ≡ blhdr + 512 * length here = ap (λ (x : ListHead). x.used) s.first.head in
      let count : head.entries - 1 ≡ length here = ap (λ (x : ListHead). x.entries - 1) s.first.head ∙ omega arith in
      let next = at + head.used in
      let rest = text_homes o blhdr text fuel next in
      ap (λ (hs : List Home). with_homes text hs content) (first_homes o blhdr text fuel at s.inside)
      ∙ ap (λ n. with_homes text (entry_homes o text (at + 32) (at + blhdr) n ++ rest) content) count
      ∙ with_homes-append text (entry_homes o text (at + 32) (at + blhdr) (length here)) rest content
      ∙ ap (with_homes text rest) (homes_are volume o text here (at + 32) (at + blhdr) content sectors (All-take (IsFitPut volume) most puts fit) s.first.there)
      ∙ all_stand volume fuel more (drop most puts) s.before text next (overlay here content) sectors (omega (arith, enough)) s.count (All-drop (IsFitPut volume) most puts fit) (All-drop IsSmall most puts small) s.behind (omega (arith, s.place, used))
      ∙ sym (overlay-append here (drop most puts) content)
      ∙ ap (λ (l : List Put). overlay l content) (take-append-drop most puts)

-- puts that fit a volume have sectors that an entry has room for
pub are_small : (volume : Volume) (puts : List Put) → volume.sectors < 2 ^ 64 → All (IsFitPut volume) puts → All IsSmall puts
are_small volume puts sectors fit = All-weaker (IsFitPut volume) IsSmall (λ (put : Put) (f : IsFitPut volume put). omega (arith, f.inside, sectors)) puts fit

module _ (volume : Volume) (form : ListForm) (puts : List Put) (is : IsForm form) (sectors : volume.sectors < 2 ^ 64) (fit : All (IsFitPut volume) puts) where
  -- each list is as it must be
  pub good_lists : (let text = lists_text form puts in bad_list volume form.order form.blhdr text (length text) 0 ≡ None)
  good_lists =
      let text = lists_text form puts in
      none_is_bad form is volume (length text) (list_count form.blhdr (length puts)) puts [] text 0 (count_is (most_puts form.blhdr) (length puts) (some_puts form is)) fit (are_small volume puts sectors fit) refl refl

-- more puts fill no fewer sectors
pub sectors_monotone : (form : ListForm) → IsForm form → (few more : ℕ) → few ≤ more → text_sectors form.blhdr few ≤ text_sectors form.blhdr more
sectors_monotone form is few more less =
    let most = most_puts form.blhdr in
    let some = some_puts form is in
    let a = count_is most few some in
    let b = count_is most more some in
    let c : list_count form.blhdr few ≤ list_count form.blhdr more = elim (cases_lt (list_count form.blhdr more) (list_count form.blhdr few)) [
      | inl above ↦ absurd (omega (arith, mul-le-mul_left most above, a.needed, b.enough, less))
      | inr below ↦ below
    ] in
    omega (arith, less, mul-le-mul_left (form.blhdr / 512) c)
