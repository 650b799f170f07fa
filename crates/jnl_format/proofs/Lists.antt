-- The lists of a text, one after the other.
use Rattle.std.proofs.Common.{Bool, List, [], ap, arith, cond, eqb, false, inl, inr, leb, length, ltb, not, refl, subst, suc, sym, true, zero, ℕ, ◌&&◌, ◌++◌, ◌+◌, ◌-◌, ◌<◌, ◌||◌, ◌∙◌, ◌≡◌, ◌≤◌, ◌⊎◌}
use Rattle.std.specs.Prelude.{Option, None, Some}
use Rattle.std.proofs.Math.Bool.{or-true}
use Rattle.std.proofs.lemmas.Bool.{and_parts, and_from, or_cases, ltb-true, lt-ltb, leb-true, eqb-true, eq-eqb, cases_lt, cases_Bool, lt-leb, le-leb}
use Rattle.hx_bytes.specs.declared.fields.Order.{Order}
use Rattle.jnl_format.specs.List.{is_list_head}
use Rattle.jnl_format.specs.Text.{bytes_at, are_blocks, block_bytes, head_at, is_list_as, bad_list_as, bad_list, entry_homes, text_homes}
use Rattle.jnl_format.specs.Dialect.{may_end}
use Rattle.jnl_format.specs.declared.dialect.Dialect.{Dialect}
use Rattle.jnl_format.specs.declared.dialect.Dialect.TheVariants.{Plain}
use Rattle.jnl_format.specs.declared.blocks.Home.{Home}
use Rattle.jnl_format.specs.declared.blocks.Volume.{Volume}
use Rattle.jnl_format.proofs.Homes.{each_append, good_blocks}
use Rattle.jnl_format.specs.Named.{IsGoodHome, Each}

-- what a list must be in a dialect, want by want
pub record IsListAs (dialect : Dialect) (volume : Volume) (order : Order) (blhdr : ℕ) (text : List ℕ) (at : ℕ) : Type 0 where
  pub header : at + blhdr ≤ length text
  pub head : is_list_head order blhdr (bytes_at text at 32) ≡ true
  pub used : (head_at order text at).used ≡ blhdr + block_bytes order text (at + 32) ((head_at order text at).entries - 1)
  pub inside : at + (head_at order text at).used ≤ length text
  pub blocks : are_blocks volume order text (at + 32) (at + blhdr) ((head_at order text at).entries - 1) ≡ true
  pub last : (may_end dialect (head_at order text at).last ≡ true) ⊎ (at + (head_at order text at).used < length text)

-- the same in the plain dialect
abbrev pub IsList : Volume → Order → ℕ → List ℕ → ℕ → Type 0
IsList = IsListAs Plain

last_parts : (x : Bool) (a b : ℕ) → (x ≡ true) ⊎ (ltb a b ≡ true) → (x ≡ true) ⊎ (a < b)
last_parts x a b (inl h) = inl h
last_parts x a b (inr h) = inr (ltb-true a b h)

pub list_parts_as : (dialect : Dialect) (volume : Volume) (order : Order) (blhdr : ℕ) (text : List ℕ) (at : ℕ) → is_list_as dialect volume order blhdr text at ≡ true → IsListAs dialect volume order blhdr text at
unfolding is_list_as
list_parts_as dialect volume order blhdr text at h =
    let hd = head_at order text at in
    let a1 = leb (at + blhdr) (length text) in
    let a2 = is_list_head order blhdr (bytes_at text at 32) in
    let a3 = eqb hd.used (blhdr + block_bytes order text (at + 32) (hd.entries - 1)) in
    let a4 = leb (at + hd.used) (length text) in
    let a5 = are_blocks volume order text (at + 32) (at + blhdr) (hd.entries - 1) in
    let a6 = may_end dialect hd.last || ltb (at + hd.used) (length text) in
    let p5 = and_parts (a1 && a2 && a3 && a4 && a5) a6 h in
    let p4 = and_parts (a1 && a2 && a3 && a4) a5 p5.0 in
    let p3 = and_parts (a1 && a2 && a3) a4 p4.0 in
    let p2 = and_parts (a1 && a2) a3 p3.0 in
    let p1 = and_parts a1 a2 p2.0 in
    record {
      header = leb-true (at + blhdr) (length text) p1.0;
      head = p1.1;
      used = eqb-true hd.used (blhdr + block_bytes order text (at + 32) (hd.entries - 1)) p2.1;
      inside = leb-true (at + hd.used) (length text) p3.1;
      blocks = p4.1;
      last = last_parts (may_end dialect hd.last) (at + hd.used) (length text) (or_cases (may_end dialect hd.last) (ltb (at + hd.used) (length text)) p5.1);
    }

none_parts : (x y : Bool) (at : ℕ) (rest : Option ℕ) → cond x None (cond (not y) (Some at) rest) ≡ None → x ≡ false → (y ≡ true) × (rest ≡ None)
none_parts true y at rest h e = absurd (cc e)
none_parts false true at rest h e = (refl, h)
none_parts false false at rest h e = absurd (cc h)

-- where no list is bad, the one at a place before the end is as it must be, and so are those behind it
pub first_list_as : (dialect : Dialect) (volume : Volume) (order : Order) (blhdr : ℕ) (text : List ℕ) (count at : ℕ) → bad_list_as dialect volume order blhdr text (suc count) at ≡ None → at < length text → IsListAs dialect volume order blhdr text at × (bad_list_as dialect volume order blhdr text count (at + (head_at order text at).used) ≡ None)
first_list_as dialect volume order blhdr text count at none below =
    let p = none_parts (leb (length text) at) (is_list_as dialect volume order blhdr text at) at (bad_list_as dialect volume order blhdr text count (at + (head_at order text at).used)) none (lt-leb (length text) at below) in
    (list_parts_as dialect volume order blhdr text at p.0, p.1)

-- the homes of the lists from a place before the end on: those of its list, and those behind it
pub first_homes : (order : Order) (blhdr : ℕ) (text : List ℕ) (count at : ℕ) → at < length text → text_homes order blhdr text (suc count) at ≡ entry_homes order text (at + 32) (at + blhdr) ((head_at order text at).entries - 1) ++ text_homes order blhdr text count (at + (head_at order text at).used)
first_homes order blhdr text count at below = ap (λ b. cond b [] (entry_homes order text (at + 32) (at + blhdr) ((head_at order text at).entries - 1) ++ text_homes order blhdr text count (at + (head_at order text at).used))) (lt-leb (length text) at below)

-- no homes at the end
pub no_homes : (order : Order) (blhdr : ℕ) (text : List ℕ) (count at : ℕ) → length text ≤ at → text_homes order blhdr text count at ≡ []
no_homes order blhdr text zero at past = refl
no_homes order blhdr text (suc count) at past = ap (λ b. cond b [] (entry_homes order text (at + 32) (at + blhdr) ((head_at order text at).entries - 1) ++ text_homes order blhdr text count (at + (head_at order text at).used))) (le-leb (length text) at past)

pub good_text_as : (dialect : Dialect) (volume : Volume) (order : Order) (blhdr : ℕ) (text : List ℕ) (count at : ℕ) → bad_list_as dialect volume order blhdr text count at ≡ None → Each (IsGoodHome volume text) (text_homes order blhdr text count at)
good_text_as dialect volume order blhdr text zero at none = tt
good_text_as dialect volume order blhdr text (suc count) at none = elim (cases_lt at (length text)) [
  | inl below ↦
      let p = first_list_as dialect volume order blhdr text count at none below in
      let hd = head_at order text at in
      subst (λ (hs : List Home). Each (IsGoodHome volume text) hs) (sym (first_homes order blhdr text count at below))
      (each_append (IsGoodHome volume text) (entry_homes order text (at + 32) (at + blhdr) (hd.entries - 1)) (text_homes order blhdr text count (at + hd.used))
      (good_blocks volume order text (at + 32) (at + blhdr) (hd.entries - 1) p.0.blocks (omega (arith, p.0.used, p.0.inside)))
      (good_text_as dialect volume order blhdr text count (at + hd.used) p.1))
  | inr past ↦ subst (λ (hs : List Home). Each (IsGoodHome volume text) hs) (sym (no_homes order blhdr text (suc count) at past)) tt
]

-- and back
pub list_from : {dialect : Dialect} (volume : Volume) (order : Order) (blhdr : ℕ) (text : List ℕ) (at : ℕ) → IsListAs dialect volume order blhdr text at → is_list_as dialect volume order blhdr text at ≡ true
unfolding is_list_as
list_from {dialect = dialect} volume order blhdr text at l =
    let hd = head_at order text at in
    let a1 = leb (at + blhdr) (length text) in
    let a2 = is_list_head order blhdr (bytes_at text at 32) in
    let a3 = eqb hd.used (blhdr + block_bytes order text (at + 32) (hd.entries - 1)) in
    let a4 = leb (at + hd.used) (length text) in
    let a5 = are_blocks volume order text (at + 32) (at + blhdr) (hd.entries - 1) in
    let a6 = may_end dialect hd.last || ltb (at + hd.used) (length text) in
    let p1 = and_from a1 a2 (le-leb (at + blhdr) (length text) l.header) l.head in
    let p2 = and_from (a1 && a2) a3 p1 (eq-eqb hd.used (blhdr + block_bytes order text (at + 32) (hd.entries - 1)) l.used) in
    let p3 = and_from (a1 && a2 && a3) a4 p2 (le-leb (at + hd.used) (length text) l.inside) in
    let p4 = and_from (a1 && a2 && a3 && a4) a5 p3 l.blocks in
    and_from (a1 && a2 && a3 && a4 && a5) a6 p4
    (elim l.last [
      | inl e ↦ ap (λ b. b || ltb (at + hd.used) (length text)) e
      | inr e ↦ ap (λ b. may_end dialect hd.last || b) (lt-ltb (at + hd.used) (length text) e) ∙ or-true (may_end dialect hd.last)
    ])

pub not_list_as : (dialect : Dialect) (volume : Volume) (order : Order) (blhdr : ℕ) (text : List ℕ) (at : ℕ) → (IsListAs dialect volume order blhdr text at → ⊥) → is_list_as dialect volume order blhdr text at ≡ false
not_list_as dialect volume order blhdr text at never = elim (cases_Bool (is_list_as dialect volume order blhdr text at)) [ inl t ↦ absurd (never (list_parts_as dialect volume order blhdr text at t)) | inr f ↦ f ]

-- the first bad list from a place on, one list further
pub next_bad_as : (dialect : Dialect) (volume : Volume) (order : Order) (blhdr : ℕ) (text : List ℕ) (count at used : ℕ) → length text ≤ at + count → at < length text → is_list_as dialect volume order blhdr text at ≡ true → used ≡ (head_at order text at).used → 0 < used
    → (m : ℕ) × (length text ≤ at + used + m) × (bad_list_as dialect volume order blhdr text count at ≡ bad_list_as dialect volume order blhdr text m (at + used))
next_bad_as dialect volume order blhdr text zero at used enough below good is some = absurd (omega arith)
next_bad_as dialect volume order blhdr text (suc count) at used enough below good is some = (
  count,
  omega arith,
  ap (λ b. cond b None (cond (not (is_list_as dialect volume order blhdr text at)) (Some at) (bad_list_as dialect volume order blhdr text count (at + (head_at order text at).used)))) (lt-leb (length text) at below)
      ∙ ap (λ b. cond (not b) (Some at) (bad_list_as dialect volume order blhdr text count (at + (head_at order text at).used))) good
      ∙ ap (λ k. bad_list_as dialect volume order blhdr text count (at + k)) (sym is),
)

pub here_bad_as : (dialect : Dialect) (volume : Volume) (order : Order) (blhdr : ℕ) (text : List ℕ) (count at : ℕ) → length text ≤ at + count → at < length text → is_list_as dialect volume order blhdr text at ≡ false → bad_list_as dialect volume order blhdr text count at ≡ Some at
here_bad_as dialect volume order blhdr text zero at enough below bad = absurd (omega arith)
here_bad_as dialect volume order blhdr text (suc count) at enough below bad =
    ap (λ b. cond b None (cond (not (is_list_as dialect volume order blhdr text at)) (Some at) (bad_list_as dialect volume order blhdr text count (at + (head_at order text at).used)))) (lt-leb (length text) at below)
    ∙ ap (λ b. cond (not b) (Some at) (bad_list_as dialect volume order blhdr text count (at + (head_at order text at).used))) bad

pub none_bad_as : (dialect : Dialect) (volume : Volume) (order : Order) (blhdr : ℕ) (text : List ℕ) (count at : ℕ) → length text ≤ at → bad_list_as dialect volume order blhdr text count at ≡ None
none_bad_as dialect volume order blhdr text zero at past = refl
none_bad_as dialect volume order blhdr text (suc count) at past = ap (λ b. cond b None (cond (not (is_list_as dialect volume order blhdr text at)) (Some at) (bad_list_as dialect volume order blhdr text count (at + (head_at order text at).used)))) (le-leb (length text) at past)

-- the same in the plain dialect
pub first_list : (volume : Volume) (order : Order) (blhdr : ℕ) (text : List ℕ) (count at : ℕ) → bad_list volume order blhdr text (suc count) at ≡ None → at < length text → IsList volume order blhdr text at × (bad_list volume order blhdr text count (at + (head_at order text at).used) ≡ None)
first_list = first_list_as Plain

pub good_text : (volume : Volume) (order : Order) (blhdr : ℕ) (text : List ℕ) (count at : ℕ) → bad_list volume order blhdr text count at ≡ None → Each (IsGoodHome volume text) (text_homes order blhdr text count at)
good_text = good_text_as Plain

pub none_bad : (volume : Volume) (order : Order) (blhdr : ℕ) (text : List ℕ) (count at : ℕ) → length text ≤ at → bad_list volume order blhdr text count at ≡ None
none_bad = none_bad_as Plain
