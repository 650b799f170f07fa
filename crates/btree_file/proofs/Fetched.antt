-- A space while the sectors of a node are read, the first k of them so far.
use Rattle.std.proofs.Common.{◌≡◌, ℕ, ◌+◌, ◌*◌, ◌≤◌, ◌<◌, IsTrue, List, [], ◌∷◌, ◌++◌, length, take, drop, slice_get, Some, refl, sym, ◌∙◌, ap, arith, length-append, append-nil}
use Rattle.std.proofs.lemmas.List.{length-take, length-drop, take_all}
use Rattle.std.proofs.Math.Seq.{take-append_seam}
use Rattle.std.proofs.lemmas.List.Concat.{flat_map-append}
use Rattle.sector_disk.specs.Lists.{Content, sector}
use Rattle.sector_disk.specs.Space.{Space}
use Rattle.hx_bytes.specs.Field.{put_at}
use Rattle.fork_map.specs.Nodes.{bytes_of, node_of}
use Rattle.btree_file.specs.Place.{sectors_at}
use Rattle.btree_file.specs.Frame.{ReadsSpace}
use Rattle.btree_file.specs.FrameLaws.{reads_none, reads_both}
use Rattle.btree_file.proofs.PlaceLaws.{one_more, many}

pub record Fetched (old now : Space) (fork : List ℕ) (per n long : ℕ) (into : List ℕ) (k : ℕ) : Type 0 where
  pub size : length into ≡ long
  pub value : IsTrue old.tells → take (k * 512) into ≡ bytes_of old.content (take k (sectors_at fork per n))
  pub reads : ReadsSpace old now

pub fetched_none : (old : Space) (fork : List ℕ) (per n : ℕ) (into : List ℕ) → Fetched old old fork per n (length into) into 0
fetched_none old fork per n into = record {
  size = refl;
  value = λ tells. refl;
  reads = reads_none old;
}

pub fetched_more : (old now new : Space) (fork : List ℕ) (per n long : ℕ) (into value : List ℕ) (k at : ℕ) → Fetched old now fork per n long into k → (n + 1) * per ≤ length fork → k < per → slice_get fork (n * per + k) ≡ Some at → (k + 1) * 512 ≤ long → length value ≡ 512
    → (IsTrue now.tells → value ≡ sector now.content at) → ReadsSpace now new
    → Fetched old new fork per n long (put_at into (k * 512) value) (k + 1)
fetched_more old now new fork per n long into value k at f whole low place fits size is step =
    let told : IsTrue old.tells → IsTrue now.tells = λ tells. f.reads.same.tells ∙ tells in
    let front : length (take (k * 512) into) ≡ k * 512 = omega (arith, length-take (k * 512) into, f.size, fits) in
    let rest = drop (k * 512 + length value) into in
    let head : length (take (k * 512) into ++ value) ≡ (k + 1) * 512 = omega (arith, length-append (take (k * 512) into) value, front, size) in
    let prefix : take ((k + 1) * 512) (put_at into (k * 512) value) ≡ take (k * 512) into ++ value = ap (λ m. take m (put_at into (k * 512) value)) (sym head) ∙ take-append_seam (take (k * 512) into ++ value) rest in
    record {
      size = omega (arith, length_put into value (k * 512), length-drop (k * 512 + length value) into, front, size, f.size, fits);
      value = λ tells.
          let one : bytes_of old.content (take (k + 1) (sectors_at fork per n)) ≡ bytes_of old.content (take k (sectors_at fork per n)) ++ sector old.content at =
          ap (λ (xs : List ℕ). bytes_of old.content xs) (one_more fork per n k at whole low place) ∙ flat_map-append (λ s. sector old.content s) (take k (sectors_at fork per n)) (at ∷ [])
          ∙ ap (λ (l : List ℕ). bytes_of old.content (take k (sectors_at fork per n)) ++ l) (append-nil (sector old.content at)) in
          let content : sector now.content at ≡ sector old.content at = ap (λ (c : Content). sector c at) (f.reads.sectors tells).content in
          prefix ∙ ap (λ (l : List ℕ). l ++ value) (f.value tells) ∙ ap (λ (l : List ℕ). bytes_of old.content (take k (sectors_at fork per n)) ++ l) (is (told tells) ∙ content) ∙ sym one;
      reads = reads_both old now new f.reads step;
    }
  where
    length_put : (into value : List ℕ) (at : ℕ) → length (put_at into at value) ≡ length (take at into) + length value + length (drop (at + length value) into)
    length_put into value at = omega (arith, length-append (take at into ++ value) (drop (at + length value) into), length-append (take at into) value)

pub fetched_all : (old now : Space) (fork : List ℕ) (per n long : ℕ) (into : List ℕ) (k : ℕ) → Fetched old now fork per n long into k → (n + 1) * per ≤ length fork → k ≡ per → long ≡ per * 512 → IsTrue old.tells → into ≡ node_of old.content fork per n
fetched_all old now fork per n long into k f whole e whole_long tells =
    sym (take_all (k * 512) into (omega (arith, f.size, whole_long, ap (λ m. m * 512) e))) ∙ f.value tells ∙ ap (λ (xs : List ℕ). bytes_of old.content xs) (take_all k (sectors_at fork per n) (omega (arith, e, many fork per n whole)))
