-- A text of lists with more lists behind it: all are as they must be, and stand for what both stand for, in order.
use Rattle.std.proofs.Common.{◌≡◌, ℕ, zero, suc, ◌+◌, ◌-◌, ◌*◌, ◌/◌, ◌^◌, ◌<◌, ◌≤◌, true, not, ◌&&◌, ◌||◌, List, [], ◌∷◌, ◌++◌, length, set, inl, inr, refl, sym, ◌∙◌, ap, arith, append_assoc, length-append, leb, ltb, cond}
use Rattle.std.specs.Prelude.{None, Some}
use Rattle.std.specs.List.{All}
use Rattle.std.proofs.Math.Nat.{mul-le-mul_left}
use Rattle.std.proofs.lemmas.Bool.{and_parts, cases_lt, cases_Bool, leb-true, ltb-true, lt-leb}
use Rattle.hx_bytes.specs.declared.fields.Order.{Order}
use Rattle.hx_bytes.specs.Field.{number_at}
use Rattle.hx_bytes.proofs.Laws.{number_at-front}
use Rattle.jnl_format.specs.List.{entry_at, is_list_head, list_head_of}
use Rattle.jnl_format.specs.Recovery.{Content, with_homes}
use Rattle.jnl_format.specs.Text.{bytes_at, is_skipped, covers, is_inside, is_apart, keeps_volume, keeps_header, is_block, are_blocks, block_bytes, block_homes, entry_homes, head_at, is_list, bad_list, text_homes}
use Rattle.jnl_format.specs.declared.blocks.Home.{Home}
use Rattle.jnl_format.specs.declared.blocks.Volume.{Volume}
use Rattle.jnl_format.specs.declared.structures.Entry.{Entry}
use Rattle.jnl_format.specs.declared.structures.ListHead.{ListHead}
use Rattle.jnl_format.specs.Named.{IsGoodHome, Each}
use Rattle.jnl_format.proofs.Lists.{IsList, list_from, first_list, first_homes, no_homes, good_text}
use Rattle.jnl_store.specs.Lists.{IsForm, IsFitPut, lists_homes, lists_text, list_count, most_puts}
use Rattle.jnl_store.specs.Overlay.{overlay}
use Rattle.jnl_store.specs.declared.form.ListForm.{ListForm}
use Rattle.jnl_store.specs.declared.puts.Put.{Put}
use Rattle.jnl_store.proofs.ListsBytes.{bytes_front}
use Rattle.jnl_store.proofs.ListsCount.{count_is}
use Rattle.jnl_store.proofs.ListsLaws.{none_is_bad, all_listed, all_stand, with_homes-append, are_small}
use Rattle.jnl_store.proofs.ListsText.{length-lists_text, some_puts}

-- homes whose bytes lie in the front have them in the whole
pub homes_front : (volume : Volume) (a b : List ℕ) (homes : List Home) (c : Content) → Each (IsGoodHome volume a) homes → with_homes (a ++ b) homes c ≡ with_homes a homes c
homes_front volume a b [] c all = refl
homes_front volume a b (h ∷ hs) c all =
    ap (λ (v : List ℕ). with_homes (a ++ b) hs (set c h.sector v)) (bytes_front a b h.place 512 all.0.placed)
    ∙ homes_front volume a b hs (set c h.sector (bytes_at a h.place 512)) all.1

module _ (volume : Volume) (order : Order) (blhdr : ℕ) (least : 32 ≤ blhdr) (a b : List ℕ) where
  entry_same : (at : ℕ) → at + 16 ≤ length a → entry_at order (a ++ b) at ≡ entry_at order a at
  entry_same at fits =
      let e1 : number_at order 8 (a ++ b) at ≡ number_at order 8 a at = number_at-front order 8 at a b (omega (arith, fits)) in
      let e2 : number_at order 4 (a ++ b) (at + 8) ≡ number_at order 4 a (at + 8) = number_at-front order 4 (at + 8) a b (omega (arith, fits)) in
      let e3 : number_at order 4 (a ++ b) (at + 12) ≡ number_at order 4 a (at + 12) = number_at-front order 4 (at + 12) a b (omega (arith, fits)) in
      rw (e1, e2, e3) refl

  head_same : (at : ℕ) → at + 32 ≤ length a → head_at order (a ++ b) at ≡ head_at order a at
  head_same at fits = ap (list_head_of order) (bytes_front a b at 32 fits)

  header_same : (body : ℕ) (e : Entry) → body + e.bsize ≤ length a → keeps_header volume (a ++ b) body e ≡ keeps_header volume a body e
  header_same body e fits = elim (cases_Bool (covers e 2)) [
    | inl t ↦
        let p = and_parts (leb e.bnum 2) (ltb 2 (e.bnum + e.bsize / 512)) t in
        ap (λ (v : List ℕ). not (covers e 2) || keeps_volume volume v) (bytes_front a b (body + (2 - e.bnum) * 512) 512 (omega (arith, fits, leb-true e.bnum 2 p.0, ltb-true 2 (e.bnum + e.bsize / 512) p.1)))
    | inr f ↦
        ap (λ x. not x || keeps_volume volume (bytes_at (a ++ b) (body + (2 - e.bnum) * 512) 512)) f
        ∙ sym (ap (λ x. not x || keeps_volume volume (bytes_at a (body + (2 - e.bnum) * 512) 512)) f)
  ]

  block_same : (body : ℕ) (e : Entry) → body + e.bsize ≤ length a → is_block volume (a ++ b) body e ≡ is_block volume a body e
  block_same body e fits = ap (λ x. is_skipped e || (is_inside volume e && is_apart volume e && x)) (header_same body e fits)

  bytes_same : (at count : ℕ) → at + 16 * count ≤ length a → block_bytes order (a ++ b) at count ≡ block_bytes order a at count
  bytes_same at zero fits = refl
  bytes_same at (suc count) fits =
      ap (λ (e : Entry). e.bsize + block_bytes order (a ++ b) (at + 16) count) (entry_same at (omega (arith, fits)))
      ∙ ap (λ n. (entry_at order a at).bsize + n) (bytes_same (at + 16) count (omega (arith, fits)))

  blocks_same : (at body count : ℕ) → at + 16 * count ≤ length a → body + block_bytes order a at count ≤ length a → are_blocks volume order (a ++ b) at body count ≡ are_blocks volume order a at body count
  blocks_same at body zero fits inside = refl
  blocks_same at body (suc count) fits inside =
      let e = entry_at order a at in
      ap (λ (x : Entry). is_block volume (a ++ b) body x && are_blocks volume order (a ++ b) (at + 16) (body + x.bsize) count) (entry_same at (omega (arith, fits)))
      ∙ ap (λ x. x && are_blocks volume order (a ++ b) (at + 16) (body + e.bsize) count) (block_same body e (omega (arith, inside)))
      ∙ ap (λ x. is_block volume a body e && x) (blocks_same (at + 16) (body + e.bsize) count (omega (arith, fits)) (omega (arith, inside)))

  homes_same : (at body count : ℕ) → at + 16 * count ≤ length a → entry_homes order (a ++ b) at body count ≡ entry_homes order a at body count
  homes_same at body zero fits = refl
  homes_same at body (suc count) fits =
      let e = entry_at order a at in
      ap (λ (x : Entry). block_homes x body ++ entry_homes order (a ++ b) (at + 16) (body + x.bsize) count) (entry_same at (omega (arith, fits)))
      ∙ ap (λ (hs : List Home). block_homes e body ++ hs) (homes_same (at + 16) (body + e.bsize) count (omega (arith, fits)))

  -- the entries of a list's header lie in it
  entries_fit : (at : ℕ) → IsList volume order blhdr a at → at + 32 + 16 * ((head_at order a at).entries - 1) ≤ at + blhdr
  entries_fit at l =
      let n = number_at order 2 (bytes_at a at 32) 2 in
      let sum = number_at order 4 (bytes_at a at 32) 8 in
      let p = and_parts _ (leb (16 + 16 * n) blhdr) l.head in
      omega (arith, leb-true (16 + 16 * n) blhdr p.1, least)

  -- a list is as it must be with more behind it
  list_same : (at : ℕ) → IsList volume order blhdr a at → IsList volume order blhdr (a ++ b) at
  list_same at l =
      let head : head_at order (a ++ b) at ≡ head_at order a at = head_same at (omega (arith, l.header, least)) in
      let count : (head_at order (a ++ b) at).entries - 1 ≡ (head_at order a at).entries - 1 = ap (λ (h : ListHead). h.entries - 1) head in
      let used : (head_at order (a ++ b) at).used ≡ (head_at order a at).used = ap (λ (h : ListHead). h.used) head in
      let last : (head_at order (a ++ b) at).last ≡ (head_at order a at).last = ap (λ (h : ListHead). h.last) head in
      let fit = entries_fit at l in
      let entries : at + 32 + 16 * ((head_at order a at).entries - 1) ≤ length a = omega (arith, fit, l.header) in
      let long : length (a ++ b) ≡ length a + length b = length-append a b in
      record {
        header = omega (arith, l.header, long);
        head = ap (is_list_head order blhdr) (bytes_front a b at 32 (omega (arith, l.header, least))) ∙ l.head;
        used =
            used ∙ l.used
            ∙ ap (λ n. blhdr + n) (sym (bytes_same (at + 32) ((head_at order a at).entries - 1) entries))
            ∙ ap (λ n. blhdr + block_bytes order (a ++ b) (at + 32) n) (sym count);
        inside = omega (arith, used, l.inside, long);
        blocks =
            ap (λ n. are_blocks volume order (a ++ b) (at + 32) (at + blhdr) n) count
            ∙ blocks_same (at + 32) (at + blhdr) ((head_at order a at).entries - 1) entries (omega (arith, l.used, l.inside)) ∙ l.blocks;
        last = elim l.last [ inl e ↦ inl (last ∙ e) | inr more ↦ inr (omega (arith, used, more, long)) ];
      }

  -- what is left of the whole text behind the lists of the front
  pub record Walked (fuel n more at : ℕ) : Type 0 where
    pub left : ℕ
    pub enough : more ≤ left
    pub bad : bad_list volume order blhdr (a ++ b) n at ≡ bad_list volume order blhdr (a ++ b) left (length a)
    pub homes : text_homes order blhdr (a ++ b) n at ≡ text_homes order blhdr a fuel at ++ text_homes order blhdr (a ++ b) left (length a)

  at_end : (fuel n more at : ℕ) → more ≤ n → at ≡ length a → Walked fuel n more at
  at_end fuel n more at enough is = record {
    left = n;
    enough = enough;
    bad = ap (λ k. bad_list volume order blhdr (a ++ b) n k) is;
    homes =
        ap (λ k. text_homes order blhdr (a ++ b) n k) is
        ∙ ap (λ (hs : List Home). hs ++ text_homes order blhdr (a ++ b) n (length a)) (sym (no_homes order blhdr a fuel at (omega (arith, is))));
  }

  pub walk : (fuel n more at : ℕ) → fuel + more ≤ n → at ≤ length a → length a ≤ at + fuel → bad_list volume order blhdr a fuel at ≡ None → Walked fuel n more at
  walk zero n more at total inside enough none = at_end zero n more at (omega (arith, total)) (omega (arith, inside, enough))
  walk (suc fuel) zero more at total inside enough none = absurd (omega (arith, total))
  walk (suc fuel) (suc n) more at total inside enough none = elim (cases_lt at (length a)) [
    | inr past ↦ at_end (suc fuel) (suc n) more at (omega (arith, total)) (omega (arith, inside, past))
    | inl below ↦
        let p = first_list volume order blhdr a fuel at none below in
        let l = p.0 in
        let h = head_at order a at in
        let head : head_at order (a ++ b) at ≡ h = head_same at (omega (arith, l.header, least)) in
        let used : (head_at order (a ++ b) at).used ≡ h.used = ap (λ (x : ListHead). x.used) head in
        let good : is_list volume order blhdr (a ++ b) at ≡ true = list_from volume order blhdr (a ++ b) at (list_same at l) in
        let below_all : at < length (a ++ b) = omega (arith, below, length-append a b) in
        let fit = entries_fit at l in
        let rest = walk fuel n more (at + h.used) (omega (arith, total)) (omega (arith, l.inside)) (omega (arith, enough, l.used, least)) p.1 in
        let here = entry_homes order a (at + 32) (at + blhdr) (h.entries - 1) in
        record {
          left = rest.left;
          enough = rest.enough;
          bad =
              ap (λ x. cond x None (cond (not (is_list volume order blhdr (a ++ b) at)) (Some at) (bad_list volume order blhdr (a ++ b) n (at + (head_at order (a ++ b) at).used)))) (lt-leb (length (a ++ b)) at below_all)
              ∙ ap (λ x. cond (not x) (Some at) (bad_list volume order blhdr (a ++ b) n (at + (head_at order (a ++ b) at).used))) good
              ∙ ap (λ k. bad_list volume order blhdr (a ++ b) n (at + k)) used
              ∙ rest.bad;
          homes =
              first_homes order blhdr (a ++ b) n at below_all
              ∙ ap (λ (x : ListHead). entry_homes order (a ++ b) (at + 32) (at + blhdr) (x.entries - 1) ++ text_homes order blhdr (a ++ b) n (at + x.used)) head
              ∙ ap (λ (hs : List Home). hs ++ text_homes order blhdr (a ++ b) n (at + h.used)) (homes_same (at + 32) (at + blhdr) (h.entries - 1) (omega (arith, fit, l.header)))
              ∙ ap (λ (hs : List Home). here ++ hs) rest.homes
              ∙ sym (append_assoc here (text_homes order blhdr a fuel (at + h.used)) (text_homes order blhdr (a ++ b) rest.left (length a)))
              ∙ ap (λ (hs : List Home). hs ++ text_homes order blhdr (a ++ b) rest.left (length a)) (sym (first_homes order blhdr a fuel at below));
        }
  ]

-- lists of puts behind a text of lists
module _ (volume : Volume) (form : ListForm) (puts : List Put) (is : IsForm form) (sectors : volume.sectors < 2 ^ 64) (fit : All (IsFitPut volume) puts) (a : List ℕ) (good : bad_list volume form.order form.blhdr a (length a) 0 ≡ None) where
  whole_walk : Walked volume form.order form.blhdr (omega (arith, is.least)) a (lists_text form puts) (length a) (length (a ++ lists_text form puts)) (length (lists_text form puts)) 0
  whole_walk = walk volume form.order form.blhdr (omega (arith, is.least)) a (lists_text form puts) (length a) (length (a ++ lists_text form puts)) (length (lists_text form puts)) 0 (omega (arith, length-append a (lists_text form puts))) (omega arith) (omega arith) good

  -- no list is bad
  pub appended_good : (let text = a ++ lists_text form puts in bad_list volume form.order form.blhdr text (length text) 0 ≡ None)
  appended_good =
      whole_walk.bad
      ∙ none_is_bad form is volume whole_walk.left (list_count form.blhdr (length puts)) puts a (a ++ lists_text form puts) (length a) (count_is (most_puts form.blhdr) (length puts) (some_puts form is)) fit (are_small volume puts sectors fit) refl refl

  -- they stand for what the text stood for, and then the puts
  pub appended_overlay : (c : Content) → (let text = a ++ lists_text form puts in with_homes text (text_homes form.order form.blhdr text (length text) 0) c ≡ overlay puts (with_homes a (text_homes form.order form.blhdr a (length a) 0) c))
  appended_overlay c =
      let text = a ++ lists_text form puts in
      let count = list_count form.blhdr (length puts) in
      let one : count * 1 ≤ count * (form.blhdr / 512) = mul-le-mul_left count (omega (arith, is.least)) in
      let front = text_homes form.order form.blhdr a (length a) 0 in
      let more = text_homes form.order form.blhdr text whole_walk.left (length a) in
      ap (λ (hs : List Home). with_homes text hs c) whole_walk.homes
      ∙ with_homes-append text front more c
      ∙ ap (λ (d : Content). with_homes text more d) (homes_front volume a (lists_text form puts) front c (good_text volume form.order form.blhdr a (length a) 0 good))
      ∙ all_stand form is volume whole_walk.left count puts a text (length a) (with_homes a front c) sectors (omega (arith, whole_walk.enough, length-lists_text form is puts, one))
      (count_is (most_puts form.blhdr) (length puts) (some_puts form is)) fit (are_small volume puts sectors fit) refl refl

  -- and their homes follow its homes
  pub appended_homes : (let text = a ++ lists_text form puts in text_homes form.order form.blhdr text (length text) 0 ≡ text_homes form.order form.blhdr a (length a) 0 ++ lists_homes form.blhdr (length a) 0 puts)
  appended_homes =
      let text = a ++ lists_text form puts in
      let count = list_count form.blhdr (length puts) in
      let one : count * 1 ≤ count * (form.blhdr / 512) = mul-le-mul_left count (omega (arith, is.least)) in
      let front = text_homes form.order form.blhdr a (length a) 0 in
      whole_walk.homes
      ∙ ap (λ (hs : List Home). front ++ hs)
      (all_listed form is volume whole_walk.left count puts a text (length a) sectors (omega (arith, whole_walk.enough, length-lists_text form is puts, one))
      (count_is (most_puts form.blhdr) (length puts) (some_puts form is)) fit (are_small volume puts sectors fit) refl refl)
