-- The statuses of runs that ended before their last line.
use Rattle.std.proofs.Common.{◌≡◌, refl, ap}
use Rattle.hfs_serving.specs.declared.telling.Stop.{Stop}
use Rattle.hfs_serving.specs.declared.telling.Stop.TheVariants as stop
use Rattle.hfsx_server.specs.Faults.{status_of}
use Rattle.hfsx_server.specs.declared.status.Status.TheVariants as status

pub no_done : (s : Stop) → status_of s ≡ status.Done → ⊥
no_done stop.Disk is = absurd (cc is)
no_done stop.Memory is = absurd (cc is)
no_done stop.Source is = absurd (cc is)
no_done stop.Sink is = absurd (cc is)
no_done stop.Steps is = absurd (cc is)
no_done stop.TooMany is = absurd (cc is)

pub no_refused : (s : Stop) → status_of s ≡ status.Refused → ⊥
no_refused stop.Disk is = absurd (cc is)
no_refused stop.Memory is = absurd (cc is)
no_refused stop.Source is = absurd (cc is)
no_refused stop.Sink is = absurd (cc is)
no_refused stop.Steps is = absurd (cc is)
no_refused stop.TooMany is = absurd (cc is)

pub no_usage : (s : Stop) → status_of s ≡ status.Usage → ⊥
no_usage stop.Disk is = absurd (cc is)
no_usage stop.Memory is = absurd (cc is)
no_usage stop.Source is = absurd (cc is)
no_usage stop.Sink is = absurd (cc is)
no_usage stop.Steps is = absurd (cc is)
no_usage stop.TooMany is = absurd (cc is)

pub is_disk : (s : Stop) → status_of s ≡ status.Disk → s ≡ stop.Disk
is_disk stop.Disk is = refl
is_disk stop.Memory is = absurd (cc is)
is_disk stop.Source is = absurd (cc is)
is_disk stop.Sink is = absurd (cc is)
is_disk stop.Steps is = absurd (cc is)
is_disk stop.TooMany is = absurd (cc is)

pub is_source : (s : Stop) → status_of s ≡ status.Source → s ≡ stop.Source
is_source stop.Disk is = absurd (cc is)
is_source stop.Memory is = absurd (cc is)
is_source stop.Source is = refl
is_source stop.Sink is = absurd (cc is)
is_source stop.Steps is = absurd (cc is)
is_source stop.TooMany is = absurd (cc is)

pub is_sink : (s : Stop) → status_of s ≡ status.Sink → s ≡ stop.Sink
is_sink stop.Disk is = absurd (cc is)
is_sink stop.Memory is = absurd (cc is)
is_sink stop.Source is = absurd (cc is)
is_sink stop.Sink is = refl
is_sink stop.Steps is = absurd (cc is)
is_sink stop.TooMany is = absurd (cc is)

pub is_many : (s : Stop) → status_of s ≡ status.TooMany → s ≡ stop.TooMany
is_many stop.Disk is = absurd (cc is)
is_many stop.Memory is = absurd (cc is)
is_many stop.Source is = absurd (cc is)
is_many stop.Sink is = absurd (cc is)
is_many stop.Steps is = absurd (cc is)
is_many stop.TooMany is = refl

pub stopped_status : (s known : Stop) → s ≡ known → status_of s ≡ status_of known
stopped_status s known same = ap status_of same
