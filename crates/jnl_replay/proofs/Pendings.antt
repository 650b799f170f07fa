-- A walk over a journal's text, step by step.
use Rattle.std.proofs.Common.{◌≡◌, ℕ, zero, suc, ◌+◌, ◌-◌, ◌*◌, ◌/◌, ◌<◌, ◌≤◌, Bool, true, false, ◌&&◌, List, [], ◌++◌, length, refl, sym, ◌∙◌, ap, subst, arith, cond, leb, eqb, append_assoc}
use Rattle.std.specs.Prelude.{None}
use Rattle.std.proofs.lemmas.Bool.{and_parts, leb-true}
use Rattle.hx_bytes.specs.Field.{number_at}
use Rattle.hx_bytes.specs.declared.fields.Order.{Order}
use Rattle.jnl_format.specs.List.{entry_at, is_list_head, list_sum}
use Rattle.jnl_format.specs.Text.{bytes_at, is_skipped, is_block, are_blocks, block_bytes, head_at, bad_list_as, sector_homes, block_homes, entry_homes, text_homes}
use Rattle.jnl_format.specs.declared.dialect.Dialect.TheVariants.{Wide}
use Rattle.jnl_format.specs.declared.blocks.Home.{Home}
use Rattle.jnl_format.specs.declared.blocks.Volume.{Volume}
use Rattle.jnl_format.specs.declared.structures.Entry.{Entry}
use Rattle.jnl_format.proofs.Lists.{IsListAs, first_list_as, first_homes, no_homes}
use Rattle.std.proofs.lemmas.Bool.Decides.{when_true}
use Rattle.std.specs.Bool.{MatchBool}
use Rattle.jnl_replay.specs.Pending.{Pending, GoesOn}
use Rattle.jnl_replay.specs.declared.homes.Homes.{Homes}

suc_of : (n : ℕ) → 0 < n → (m : ℕ) × (n ≡ suc m)
suc_of zero some = absurd (omega arith)
suc_of (suc m) some = (m, refl)

head_bounds : (order : Order) (blhdr : ℕ) (bytes : List ℕ) → is_list_head order blhdr bytes ≡ true → (1 ≤ number_at order 2 bytes 2) × (16 + 16 * number_at order 2 bytes 2 ≤ blhdr)
head_bounds order blhdr bytes h =
    let p = and_parts (eqb (number_at order 4 bytes 8) (list_sum bytes) && leb 1 (number_at order 2 bytes 2)) (leb (16 + 16 * number_at order 2 bytes 2) blhdr) h in
    let q = and_parts (eqb (number_at order 4 bytes 8) (list_sum bytes)) (leb 1 (number_at order 2 bytes 2)) p.0 in
    (leb-true 1 (number_at order 2 bytes 2) q.1, leb-true (16 + 16 * number_at order 2 bytes 2) blhdr p.1)

when_false : (P Q : Type 0) (b : Bool) → b ≡ false → MatchBool b P Q → Q
when_false P Q true is h = absurd (cc is)
when_false P Q false is h = h

cond_most : (b : Bool) (n : ℕ) → cond b 0 n ≤ n
cond_most true n = omega arith
cond_most false n = omega arith

block_kept : (entry : Entry) (body : ℕ) (skipped : Bool) → cond skipped [] (sector_homes entry.bnum body (entry.bsize / 512)) ≡ sector_homes entry.bnum body (cond skipped 0 (entry.bsize / 512))
block_kept entry body true = refl
block_kept entry body false = refl

module _ (volume : Volume) (bytes : List ℕ) (c : Homes) (homes : List Home) (p : Pending volume bytes c homes) where
  -- with no sector of a block left, what is left is of entries and lists
  at_block : c.count ≡ 0 → homes ≡ entry_homes c.text.order bytes c.entry c.body c.entries ++ text_homes c.text.order c.text.blhdr bytes p.lists c.list
  at_block none =
      p.homes_are ∙ ap (λ n. sector_homes c.sector c.place n ++ (entry_homes c.text.order bytes c.entry c.body c.entries ++ text_homes c.text.order c.text.blhdr bytes p.lists c.list)) none

  at_list : c.count ≡ 0 → c.entries ≡ 0 → homes ≡ text_homes c.text.order c.text.blhdr bytes p.lists c.list
  at_list none no_entries =
      at_block none ∙ ap (λ n. entry_homes c.text.order bytes c.entry c.body n ++ text_homes c.text.order c.text.blhdr bytes p.lists c.list) no_entries

  pub at_end : c.count ≡ 0 → c.entries ≡ 0 → length bytes ≤ c.list → homes ≡ []
  at_end none no_entries past = at_list none no_entries ∙ no_homes c.text.order c.text.blhdr bytes p.lists c.list past

  module _ (none : c.count ≡ 0) (no_entries : c.entries ≡ 0) (below : c.list < length bytes) where
    more_lists : (m : ℕ) × (p.lists ≡ suc m)
    more_lists = suc_of p.lists (omega (arith, p.enough, below))

    next_list : IsListAs Wide volume c.text.order c.text.blhdr bytes c.list × (bad_list_as Wide volume c.text.order c.text.blhdr bytes more_lists.0 (c.list + (head_at c.text.order bytes c.list).used) ≡ None)
    next_list =
        first_list_as Wide volume c.text.order c.text.blhdr bytes more_lists.0 c.list (ap (λ n. bad_list_as Wide volume c.text.order c.text.blhdr bytes n c.list) (sym more_lists.1) ∙ p.good) below

    pub list_here : IsListAs Wide volume c.text.order c.text.blhdr bytes c.list
    list_here = next_list.0

    pub pend_list : (used header entries : ℕ) → used ≡ (head_at c.text.order bytes c.list).used → header ≡ c.text.blhdr → entries ≡ (head_at c.text.order bytes c.list).entries - 1 → 0 < c.text.blhdr
        → Pending volume bytes (record c { list = c.list + used; entry = c.list + 32; entries = entries; body = c.list + header }) homes
    pend_list used header entries u h n some =
        let order = c.text.order in
        let l = list_here in
        let hd = head_at order bytes c.list in
        let b = head_bounds order c.text.blhdr (bytes_at bytes c.list 32) l.head in
        let bytes_are : block_bytes order bytes (c.list + 32) entries ≡ block_bytes order bytes (c.list + 32) (hd.entries - 1) = ap (λ k. block_bytes order bytes (c.list + 32) k) n in
        record {
          sectors = p.sectors;
          lists = more_lists.0;
          enough = omega (arith, p.enough, more_lists.1, u, l.used, some);
          good = ap (λ k. bad_list_as Wide volume order c.text.blhdr bytes more_lists.0 (c.list + k)) u ∙ next_list.1;
          blocks = ap (λ k. are_blocks volume order bytes (c.list + 32) (c.list + k) entries) h ∙ ap (λ k. are_blocks volume order bytes (c.list + 32) (c.list + c.text.blhdr) k) n ∙ l.blocks;
          bodies = omega (arith, bytes_are, u, h, l.used);
          inside = omega (arith, u, l.inside);
          heads = omega (arith, n, b.0, b.1, l.header);
          here = omega (arith, p.here, p.bodies, h);
          behind = p.behind;
          all = p.all;
          homes_are =
              at_list none no_entries
              ∙ ap (λ k. text_homes order c.text.blhdr bytes k c.list) more_lists.1
              ∙ first_homes order c.text.blhdr bytes more_lists.0 c.list below
              ∙ ap (λ k. entry_homes order bytes (c.list + 32) (c.list + c.text.blhdr) k ++ text_homes order c.text.blhdr bytes more_lists.0 (c.list + hd.used)) (sym n)
              ∙ ap (λ k. entry_homes order bytes (c.list + 32) (c.list + k) entries ++ text_homes order c.text.blhdr bytes more_lists.0 (c.list + hd.used)) (sym h)
              ∙ ap (λ k. entry_homes order bytes (c.list + 32) (c.list + header) entries ++ text_homes order c.text.blhdr bytes more_lists.0 (c.list + k)) (sym u)
              ∙ ap (λ k. sector_homes c.sector c.place k ++ (entry_homes order bytes (c.list + 32) (c.list + header) entries ++ text_homes order c.text.blhdr bytes more_lists.0 (c.list + used))) (sym none);
        }

  module _ (none : c.count ≡ 0) (some : 0 < c.entries) where
    more_entries : (m : ℕ) × (c.entries ≡ suc m)
    more_entries = suc_of c.entries some

    blocks_here : are_blocks volume c.text.order bytes (c.entry + 16) (c.body + (entry_at c.text.order bytes c.entry).bsize) more_entries.0 ≡ true
    blocks_here =
        (and_parts (is_block volume bytes c.body (entry_at c.text.order bytes c.entry)) (are_blocks volume c.text.order bytes (c.entry + 16) (c.body + (entry_at c.text.order bytes c.entry).bsize) more_entries.0)
        (ap (λ n. are_blocks volume c.text.order bytes c.entry c.body n) (sym more_entries.1) ∙ p.blocks)).1

    bytes_here : block_bytes c.text.order bytes c.entry c.entries ≡ (entry_at c.text.order bytes c.entry).bsize + block_bytes c.text.order bytes (c.entry + 16) more_entries.0
    bytes_here = ap (λ n. block_bytes c.text.order bytes c.entry n) more_entries.1

    homes_here : homes ≡ block_homes (entry_at c.text.order bytes c.entry) c.body ++ (entry_homes c.text.order bytes (c.entry + 16) (c.body + (entry_at c.text.order bytes c.entry).bsize) more_entries.0 ++ text_homes c.text.order c.text.blhdr bytes p.lists c.list)
    homes_here =
        at_block none ∙ ap (λ n. entry_homes c.text.order bytes c.entry c.body n ++ text_homes c.text.order c.text.blhdr bytes p.lists c.list) more_entries.1
        ∙ append_assoc (block_homes (entry_at c.text.order bytes c.entry) c.body) (entry_homes c.text.order bytes (c.entry + 16) (c.body + (entry_at c.text.order bytes c.entry).bsize) more_entries.0) (text_homes c.text.order c.text.blhdr bytes p.lists c.list)

    pub entry_fits : (c.entry + 16 ≤ length bytes) × (c.body + (entry_at c.text.order bytes c.entry).bsize ≤ length bytes)
    entry_fits = (omega (arith, p.heads, some), omega (arith, p.bodies, p.inside, bytes_here))

    pub pend_entry : (entry : Entry) (size count : ℕ) → entry ≡ entry_at c.text.order bytes c.entry → size ≡ entry.bsize → count ≡ cond (is_skipped entry) 0 (entry.bsize / 512)
        → Pending volume bytes (record c { sector = entry.bnum; place = c.body; count = count; entry = c.entry + 16; entries = c.entries - 1; body = c.body + size }) homes
    pend_entry entry size count is long kept =
        let order = c.text.order in
        let e = entry_at order bytes c.entry in
        let s : size ≡ e.bsize = long ∙ ap (λ (x : Entry). x.bsize) is in
        let n : more_entries.0 ≡ c.entries - 1 = omega (arith, more_entries.1) in
        let bound : count ≤ entry.bsize / 512 = omega (arith, kept, cond_most (is_skipped entry) (entry.bsize / 512)) in
        let rest : entry_homes order bytes (c.entry + 16) (c.body + e.bsize) more_entries.0 ≡ entry_homes order bytes (c.entry + 16) (c.body + size) (c.entries - 1) =
        ap (λ k. entry_homes order bytes (c.entry + 16) (c.body + k) more_entries.0) (sym s) ∙ ap (λ k. entry_homes order bytes (c.entry + 16) (c.body + size) k) n in
        record {
          sectors = p.sectors;
          lists = p.lists;
          enough = p.enough;
          good = p.good;
          blocks = ap (λ k. are_blocks volume order bytes (c.entry + 16) (c.body + size) k) (sym n) ∙ ap (λ k. are_blocks volume order bytes (c.entry + 16) (c.body + k) more_entries.0) s ∙ blocks_here;
          bodies = omega (arith, p.bodies, bytes_here, s, ap (λ k. block_bytes order bytes (c.entry + 16) k) n);
          inside = p.inside;
          heads = omega (arith, p.heads, some);
          here = omega (arith, bound, long);
          behind = omega (arith, p.behind, p.here);
          all = p.all;
          homes_are =
              homes_here
              ∙ ap (λ (l : List Home). block_homes e c.body ++ (l ++ text_homes order c.text.blhdr bytes p.lists c.list)) rest
              ∙ ap (λ (l : List Home). l ++ (entry_homes order bytes (c.entry + 16) (c.body + size) (c.entries - 1) ++ text_homes order c.text.blhdr bytes p.lists c.list))
              (ap (λ (x : Entry). block_homes x c.body) (sym is) ∙ block_kept entry c.body (is_skipped entry) ∙ ap (λ k. sector_homes entry.bnum c.body k) (sym kept));
        }

-- one step further, from bytes that are the same
pub goes_true : (volume : Volume) (bytes now : List ℕ) (old new : Homes) (more : Bool) (homes : List Home) → now ≡ bytes → more ≡ true → GoesOn now old new more → Pending volume bytes old homes → Pending volume bytes new homes
goes_true volume bytes now old new more homes same is goes p =
    let q = goes volume homes (subst (λ (b : List ℕ). Pending volume b old homes) (sym same) p) in
    subst (λ (b : List ℕ). Pending volume b new homes) same (when_true (Pending volume now new homes) (homes ≡ []) is q)

pub goes_false : (volume : Volume) (bytes now : List ℕ) (old new : Homes) (more : Bool) (homes : List Home) → now ≡ bytes → more ≡ false → GoesOn now old new more → Pending volume bytes old homes → homes ≡ []
goes_false volume bytes now old new more homes same is goes p =
    when_false (Pending volume now new homes) (homes ≡ []) more is (goes volume homes (subst (λ (b : List ℕ). Pending volume b old homes) (sym same) p))
