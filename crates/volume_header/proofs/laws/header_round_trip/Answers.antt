use Rattle.volume_header.proofs.ReadBack.{header_of-header_bytes}
use Rattle.volume_header.proofs.SpelledBack.{header_bytes-header_of}
use Rattle.volume_header.proofs.laws.header_round_trip.Goals as goal

pub returns : goal.returns
returns c = record { read_back = header_of-header_bytes; written_back = header_bytes-header_of }
