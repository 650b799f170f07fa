-- What was read of a list, against what the list must be.
use Rattle.std.proofs.Common.{◌≡◌, ℕ, ◌+◌, ◌-◌, ◌<◌, ◌≤◌, ◌⊎◌, Bool, true, false, List, length, refl, sym, ◌∙◌, ap, subst, inl, inr, arith, eqb, cond}
use Rattle.std.specs.Prelude.{Option, None, Some, IfSome}
use Rattle.std.proofs.lemmas.Bool.{and_parts, and_from, eqb-true, eq-eqb, true≢false}
use Rattle.hx_bytes.specs.declared.fields.Order.{Order}
use Rattle.jnl_format.specs.List.{is_list_head, list_read, list_head_of}
use Rattle.jnl_format.specs.Text.{bytes_at, head_at, are_blocks, block_bytes, is_list_as}
use Rattle.jnl_format.specs.Dialect.{may_end}
use Rattle.jnl_format.specs.declared.dialect.Dialect.{Dialect}
use Rattle.jnl_format.specs.declared.blocks.Volume.{Volume}
use Rattle.jnl_format.specs.declared.structures.ListHead.{ListHead}
use Rattle.jnl_format.proofs.Lists.{IsListAs, list_from, not_list_as}
use Rattle.jnl_replay.proofs.Filling.{filled}

cond_some : (b : Bool) (x h : ListHead) → Some h ≡ cond b (Some x) None → (b ≡ true) × (h ≡ x)
cond_some true x h e = (refl, cc e)
cond_some false x h e = absurd (cc e)

cond_none : (b : Bool) (x : ListHead) → None ≡ cond b (Some x) None → b ≡ false
cond_none true x e = absurd (cc e)
cond_none false x e = refl

module _ (dialect : Dialect) (volume : Volume) (order : Order) (blhdr : ℕ) (text : List ℕ) (at : ℕ) where
  -- the list's header doesn't lie in the text
  pub short_list : length text - at < blhdr → at < length text → false ≡ is_list_as dialect volume order blhdr text at
  short_list short below = sym (not_list_as dialect volume order blhdr text at (λ l. omega (arith, l.header)))

  -- its first bytes are no head
  pub headless_list : (bytes : List ℕ) → bytes ≡ bytes_at text at 32 → None ≡ list_read order blhdr bytes → false ≡ is_list_as dialect volume order blhdr text at
  headless_list bytes same none =
      sym (not_list_as dialect volume order blhdr text at (λ l. true≢false (sym l.head ∙ ap (λ (b : List ℕ). is_list_head order blhdr b) (sym same) ∙ cond_none (is_list_head order blhdr bytes) (list_head_of order bytes) none)))

  module _ (bytes : List ℕ) (head : ListHead) (same : bytes ≡ bytes_at text at 32) (read : Some head ≡ list_read order blhdr bytes) where
    head_holds : is_list_head order blhdr (bytes_at text at 32) ≡ true
    head_holds = ap (λ (b : List ℕ). is_list_head order blhdr b) (sym same) ∙ (cond_some (is_list_head order blhdr bytes) (list_head_of order bytes) head read).0

    pub head_is : head ≡ head_at order text at
    head_is = (cond_some (is_list_head order blhdr bytes) (list_head_of order bytes) head read).1 ∙ ap (λ (b : List ℕ). list_head_of order b) same

    -- it doesn't say of itself that it ends as it must
    pub unsized_list : (used : ℕ) → used ≡ head.used → ((blhdr ≤ used) × (used ≤ length text - at) × ((may_end dialect head.last ≡ true) ⊎ (used < length text - at)) → ⊥) → at < length text → false ≡ is_list_as dialect volume order blhdr text at
    unsized_list used is never below =
        let e : used ≡ (head_at order text at).used = is ∙ ap (λ (h : ListHead). h.used) head_is in
        sym (not_list_as dialect volume order blhdr text at (λ l. never (
          omega (arith, l.used),
          omega (arith, l.inside),
          elim l.last [
            | inl f ↦ inl (ap (λ (h : ListHead). may_end dialect h.last) head_is ∙ f)
            | inr f ↦ inr (omega arith)
          ],
        )))

    -- its blocks aren't as they must be
    pub unfilled_list : (used entries : ℕ) → used ≡ head.used → entries ≡ head.entries - 1 → false ≡ filled volume order text (at + used) (at + 32) (at + blhdr) entries → false ≡ is_list_as dialect volume order blhdr text at
    unfilled_list used entries is count not_filled =
        let e : used ≡ (head_at order text at).used = is ∙ ap (λ (h : ListHead). h.used) head_is in
        let n : entries ≡ (head_at order text at).entries - 1 = count ∙ ap (λ (h : ListHead). h.entries - 1) head_is in
        let f : false ≡ filled volume order text (at + (head_at order text at).used) (at + 32) (at + blhdr) ((head_at order text at).entries - 1) =
        not_filled ∙ ap (λ k. filled volume order text (at + k) (at + 32) (at + blhdr) entries) e ∙ ap (λ k. filled volume order text (at + (head_at order text at).used) (at + 32) (at + blhdr) k) n in
        sym (not_list_as dialect volume order blhdr text at (λ l. true≢false (sym (and_from
        (eqb (at + (head_at order text at).used) (at + blhdr + block_bytes order text (at + 32) ((head_at order text at).entries - 1)))
        (are_blocks volume order text (at + 32) (at + blhdr) ((head_at order text at).entries - 1))
        (eq-eqb (at + (head_at order text at).used) (at + blhdr + block_bytes order text (at + 32) ((head_at order text at).entries - 1)) (omega (arith, l.used))) l.blocks) ∙ sym f)))

    -- all is as it must be
    pub whole_list : (used entries : ℕ) → used ≡ head.used → entries ≡ head.entries - 1 → true ≡ filled volume order text (at + used) (at + 32) (at + blhdr) entries
        → (blhdr ≤ used) × (used ≤ length text - at) × ((may_end dialect head.last ≡ true) ⊎ (used < length text - at)) → at < length text → true ≡ is_list_as dialect volume order blhdr text at
    whole_list used entries is count full sized below =
        let e : used ≡ (head_at order text at).used = is ∙ ap (λ (h : ListHead). h.used) head_is in
        let n : entries ≡ (head_at order text at).entries - 1 = count ∙ ap (λ (h : ListHead). h.entries - 1) head_is in
        let f : true ≡ filled volume order text (at + (head_at order text at).used) (at + 32) (at + blhdr) ((head_at order text at).entries - 1) =
        full ∙ ap (λ k. filled volume order text (at + k) (at + 32) (at + blhdr) entries) e ∙ ap (λ k. filled volume order text (at + (head_at order text at).used) (at + 32) (at + blhdr) k) n in
        let p = and_parts (eqb (at + (head_at order text at).used) (at + blhdr + block_bytes order text (at + 32) ((head_at order text at).entries - 1))) (are_blocks volume order text (at + 32) (at + blhdr) ((head_at order text at).entries - 1)) (sym f) in
        let q = eqb-true (at + (head_at order text at).used) (at + blhdr + block_bytes order text (at + 32) ((head_at order text at).entries - 1)) p.0 in
        sym (list_from volume order blhdr text at (record {
          header = omega (arith, sized.0, sized.1);
          head = head_holds;
          used = omega arith;
          inside = omega (arith, sized.1);
          blocks = p.1;
          last = elim sized.2 [
            | inl g ↦ inl (ap (λ (h : ListHead). may_end dialect h.last) (sym head_is) ∙ g)
            | inr g ↦ inr (omega arith)
          ];
        }))

pub sized_to : (h blhdr l long at used : ℕ) (last : Bool) → h ≡ blhdr → long ≡ l → (blhdr ≤ used) × (used ≤ long - at) × ((last ≡ true) ⊎ (used < long - at)) → (h ≤ used) × (used ≤ l - at) × ((last ≡ true) ⊎ (used < l - at))
sized_to h blhdr l long at used last p q s = (omega (arith, s.0), omega (arith, s.1), elim s.2 [ inl e ↦ inl e | inr e ↦ inr (omega arith) ])

pub sized_back : (h blhdr l long at used : ℕ) (last : Bool) → h ≡ blhdr → long ≡ l → (h ≤ used) × (used ≤ l - at) × ((last ≡ true) ⊎ (used < l - at)) → (blhdr ≤ used) × (used ≤ long - at) × ((last ≡ true) ⊎ (used < long - at))
sized_back h blhdr l long at used last p q s = (omega (arith, s.0), omega (arith, s.1), elim s.2 [ inl e ↦ inl e | inr e ↦ inr (omega arith) ])

pub if_some : (P : ℕ → Type 0) (o : Option ℕ) (n : ℕ) → o ≡ Some n → IfSome o P → P n
if_some P o n is h = subst (λ (x : Option ℕ). IfSome x P) is h

pub not_headless : (dialect : Dialect) (volume : Volume) (order : Order) (blhdr : ℕ) (text : List ℕ) (at : ℕ) (bytes : List ℕ) → bytes ≡ bytes_at text at 32 → None ≡ list_read order blhdr bytes → IsListAs dialect volume order blhdr text at → ⊥
not_headless dialect volume order blhdr text at bytes same none l =
    true≢false (sym l.head ∙ ap (λ (b : List ℕ). is_list_head order blhdr b) (sym same) ∙ cond_none (is_list_head order blhdr bytes) (list_head_of order bytes) none)
