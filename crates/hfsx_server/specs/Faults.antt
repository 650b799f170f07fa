-- Faults of a check and of a run, as those of their parts and as statuses.
use Rattle.hx_bytes.specs.declared.faults.Trouble.{Trouble}
use Rattle.hx_bytes.specs.declared.faults.Trouble.TheVariants as trouble
use Rattle.hfs_serving.specs.declared.telling.Stop.{Stop}
use Rattle.hfs_serving.specs.declared.telling.Stop.TheVariants as stop
use Rattle.hfsx_server.specs.declared.faults.CheckFault.{CheckFault}
use Rattle.hfsx_server.specs.declared.faults.CheckFault.TheVariants as fault
use Rattle.hfsx_server.specs.declared.status.Status.{Status}
use Rattle.hfsx_server.specs.declared.status.Status.TheVariants as status

-- the fault of a check where the volume was in trouble
abbrev pub fault_of_trouble : Trouble → CheckFault
fault_of_trouble trouble.Disk = fault.Disk
fault_of_trouble trouble.Memory = fault.Memory

-- The status of a run that ended before its last line. A run that used up its steps ends as one without memory.
abbrev pub status_of : Stop → Status
status_of stop.Disk = status.Disk
status_of stop.Memory = status.Memory
status_of stop.Source = status.Source
status_of stop.Sink = status.Sink
status_of stop.Steps = status.Memory
status_of stop.TooMany = status.TooMany

-- the status of a run that had this trouble before it served
abbrev pub trouble_status : Trouble → Status
trouble_status trouble.Disk = status.Disk
trouble_status trouble.Memory = status.Memory
