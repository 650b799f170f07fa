use Rattle.hfs_serving.proofs.Leading.{leads_entry, leads_on}
use Rattle.hfs_serving.proofs.laws.entries_lead_on.Goals as goal

pub returns-clause-entry : goal.returns-clause-entry
returns-clause-entry c capacity shrunk start now run entry leads before served place = leads_entry capacity shrunk start run now entry leads before served place

pub returns-clause-tidied : goal.returns-clause-tidied
returns-clause-tidied c capacity shrunk asked start now next run leads tidied place = leads_on capacity shrunk start run now asked next leads tidied place
