-- What was looked at, against what a content is refused for.
use Rattle.std.proofs.Common.{true, false, ◌≡◌, ◌/◌, ℕ, IsTrue, length, sym, ◌∙◌, ap}
use Rattle.std.specs.Prelude.{None, Option, Ok, Err, option_map}
use Rattle.std.proofs.lemmas.List.{length-map}
use Rattle.volume_header.specs.declared.header.VolumeHeader.{VolumeHeader}
use Rattle.sector_disk.specs.Lists.{last}
use Rattle.sector_disk.specs.Disk.{State, IsDisk, content}
use Rattle.jnl_format.specs.Info.{is_fresh}
use Rattle.jnl_format.specs.Header.{header_read_as}
use Rattle.jnl_format.specs.Ring.{offset_after}
use Rattle.jnl_format.specs.Text.{bad_list_as}
use Rattle.jnl_format.specs.Recovery.{Content, sector, header_of_volume, info_in, journal_as, list_fault_as, text_fault_as, fresh_header, recovery_as, replayed}
use Rattle.jnl_format.specs.declared.dialect.Dialect.{Dialect}
use Rattle.jnl_format.specs.declared.structures.Info.{Info}
use Rattle.jnl_format.specs.declared.structures.Header.{Header}
use Rattle.jnl_format.specs.declared.structures.JnlRefusal.TheVariants.{BadList}
use Rattle.jnl_format.proofs.Alike.{IsPlaceOf, recovers_as, stands_for_as}
use Rattle.jnl_format.proofs.Recovering.{refused_journal_as, refused_text_as, no_journal_as, journal_is_kept_as, journal_is_fresh_as}
use Rattle.jnl_replay.specs.Plan.{IsPlace, IsFaultOf, IsFirstFault, IsRefusedIn, journal_of}
use Rattle.jnl_replay.specs.Text.{words, text_in}
use Rattle.jnl_replay.specs.declared.plan.Place.{Place}
use Rattle.jnl_replay.specs.declared.plan.Plan.{Plan}
use Rattle.jnl_replay.specs.declared.plan.ReplayFault.{ReplayFault}
use Rattle.jnl_replay.specs.declared.plan.ReplayFault.TheVariants.{Disk, Refused}
use Rattle.jnl_replay.specs.declared.text.Text.{Text}

pub length-content : (disk : State) → IsDisk disk → IsTrue disk.tells → length (content disk) ≡ disk.sectors
length-content disk is tells = length-map disk.candidates last ∙ is.size tells

pub place_of : (content : Content) (place : Place) → IsPlace content place → IsPlaceOf place.info_sector place.last_mounted content
place_of content place p = record { accepted = p.accepted; info_sector = p.info_sector; last_mounted = p.last_mounted }

pub refuse_journal : (dialect : Dialect) (content : Content) (place : Place) (fault : ReplayFault) → IsPlace content place → IsFaultOf (journal_as dialect place.info_sector content) fault → IsRefusedIn dialect content fault
refuse_journal dialect content place Disk p h = tt
refuse_journal dialect content place (Refused r) p h = recovers_as dialect place.info_sector place.last_mounted content (place_of content place p) ∙ refused_journal_as dialect place.info_sector place.last_mounted content r h

pub refuse_text : (dialect : Dialect) (content now : Content) (place : Place) (plan : Plan) (fault : ReplayFault) → IsPlace content place → now ≡ content → plan.place ≡ place → journal_as dialect place.info_sector content ≡ Ok (journal_of plan)
    → IsFirstFault (text_fault_as dialect plan.place.info_sector plan.place.last_mounted (journal_of plan) now) fault → IsRefusedIn dialect content fault
refuse_text dialect content now place plan Disk p same at found h = tt
refuse_text dialect content now place plan (Refused r) p same at found h =
    recovers_as dialect place.info_sector place.last_mounted content (place_of content place p)
    ∙ refused_text_as dialect place.info_sector place.last_mounted content (journal_of plan) r found
    (ap (λ (c : Content). text_fault_as dialect place.info_sector place.last_mounted (journal_of plan) c) (sym same)
    ∙ ap (λ (q : Place). text_fault_as dialect q.info_sector q.last_mounted (journal_of plan) now) (sym at) ∙ h)

pub refuse_info : (dialect : Dialect) (at : ℕ) (content : Content) (fault : ReplayFault) → IsFaultOf (info_in at content) fault → IsFaultOf (journal_as dialect at content) fault
refuse_info dialect at content Disk h = tt
refuse_info dialect at content (Refused r) h = no_journal_as dialect at content r h

pub refuse_header : (dialect : Dialect) (at : ℕ) (content now : Content) (info : Info) (fault : ReplayFault) → now ≡ content → info_in at content ≡ Ok info → is_fresh info ≡ false → IsFaultOf (header_read_as dialect info.size (sector now (info.offset / 512))) fault → IsFaultOf (journal_as dialect at content) fault
refuse_header dialect at content now info Disk same found old h = tt
refuse_header dialect at content now info (Refused r) same found old h =
    journal_is_kept_as dialect at content info (Err r) found old (ap (λ (c : Content). header_read_as dialect info.size (sector c (info.offset / 512))) (sym same) ∙ h)

pub plan_fresh : (dialect : Dialect) (content : Content) (place : Place) (info : Info) (plan : Plan) → info_in place.info_sector content ≡ Ok info → is_fresh info ≡ true → plan ≡ record { place = place; info = info; header = fresh_header info.size; fresh = true }
    → (journal_as dialect place.info_sector content ≡ Ok (journal_of plan)) × (plan.place ≡ place)
plan_fresh dialect content place info plan found fresh is =
    (journal_is_fresh_as dialect place.info_sector content info found fresh ∙ ap (λ (q : Plan). Ok (journal_of q)) (sym is), ap (λ (q : Plan). q.place) is)

pub plan_kept : (dialect : Dialect) (content now : Content) (place : Place) (info : Info) (header : Header) (plan : Plan) → now ≡ content → info_in place.info_sector content ≡ Ok info → is_fresh info ≡ false → header_read_as dialect info.size (sector now (info.offset / 512)) ≡ Ok header
    → plan ≡ record { place = place; info = info; header = header; fresh = false } → (journal_as dialect place.info_sector content ≡ Ok (journal_of plan)) × (plan.place ≡ place)
plan_kept dialect content now place info header plan same found old read is = (
  journal_is_kept_as dialect place.info_sector content info (Ok header) found old (ap (λ (c : Content). header_read_as dialect info.size (sector c (info.offset / 512))) (sym same) ∙ read)
      ∙ ap (λ (q : Plan). Ok (journal_of q)) (sym is),
  ap (λ (q : Plan). q.place) is,
)

-- the lists were looked at
pub lists_checked : (dialect : Dialect) (c : Content) (now : Content) (plan : Plan) (sectors : ℕ) (header : VolumeHeader) (text : Text) (o : Option ℕ)
    → now ≡ c → sectors ≡ length c → header ≡ header_of_volume c → text ≡ text_in plan.info plan.header
    → o ≡ bad_list_as dialect (record { sectors = sectors; first = plan.info.offset / 512; count = plan.info.size / 512; info_sector = plan.place.info_sector; header = header }) text.order text.blhdr (words text now) (length (words text now)) 0
    → list_fault_as dialect plan.place.info_sector (journal_of plan) c ≡ option_map (λ place. BadList (offset_after plan.info.size plan.header.start place)) o
unfolding words
lists_checked dialect c now plan sectors header text o same size head is e =
    ap (λ (x : Option ℕ). option_map (λ place. BadList (offset_after plan.info.size plan.header.start place)) x)
    (sym (e
    ∙ ap (λ (d : Content). bad_list_as dialect (record { sectors = sectors; first = plan.info.offset / 512; count = plan.info.size / 512; info_sector = plan.place.info_sector; header = header }) text.order text.blhdr (words text d) (length (words text d)) 0) same
    ∙ ap (λ n. bad_list_as dialect (record { sectors = n; first = plan.info.offset / 512; count = plan.info.size / 512; info_sector = plan.place.info_sector; header = header }) text.order text.blhdr (words text c) (length (words text c)) 0) size
    ∙ ap (λ (h : VolumeHeader). bad_list_as dialect (record { sectors = length c; first = plan.info.offset / 512; count = plan.info.size / 512; info_sector = plan.place.info_sector; header = h }) text.order text.blhdr (words text c) (length (words text c)) 0) head
    ∙ ap (λ (t : Text). bad_list_as dialect (record { sectors = length c; first = plan.info.offset / 512; count = plan.info.size / 512; info_sector = plan.place.info_sector; header = header_of_volume c }) t.order t.blhdr (words t c) (length (words t c)) 0) is))

-- what was looked at has no fault, and so the recovered content is defined
pub plan_recovers : (dialect : Dialect) (content now : Content) (place : Place) (plan : Plan) → IsPlace content place → now ≡ content → plan.place ≡ place → journal_as dialect place.info_sector content ≡ Ok (journal_of plan)
    → text_fault_as dialect plan.place.info_sector plan.place.last_mounted (journal_of plan) now ≡ None → recovery_as dialect content ≡ Ok (replayed (journal_of plan) content)
plan_recovers dialect content now place plan p same at found sound =
    recovers_as dialect place.info_sector place.last_mounted content (place_of content place p)
    ∙ stands_for_as dialect place.info_sector place.last_mounted (journal_of plan) content found
    (ap (λ (c : Content). text_fault_as dialect place.info_sector place.last_mounted (journal_of plan) c) (sym same)
    ∙ ap (λ (q : Place). text_fault_as dialect q.info_sector q.last_mounted (journal_of plan) now) (sym at) ∙ sound)
