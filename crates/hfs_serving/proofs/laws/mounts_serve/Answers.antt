use Rattle.std.proofs.Common.{inl, inr}
use Rattle.hfs_serving.proofs.Staging.{mark_stage_crashes, tidy_stage_crashes, tidy_stage_serves, version_stage_crashes, version_stage_serves}
use Rattle.hfs_serving.proofs.laws.mounts_serve.Goals as goal

pub returns-clause-tidied : goal.returns-clause-tidied
returns-clause-tidied g c capacity shrunk start now x y turns tidied place = tidy_stage_serves capacity shrunk start now (g.G.Ground.outside x) (g.G.Ground.outside y) turns tidied place

pub returns-clause-tidied_crashes : goal.returns-clause-tidied_crashes
returns-clause-tidied_crashes g c capacity shrunk start now x y may tidied place = tidy_stage_crashes capacity shrunk start now (g.G.Ground.outside x) (g.G.Ground.outside y) may tidied place

pub returns-clause-version : goal.returns-clause-version
returns-clause-version g c capacity shrunk start version now x y z first sets version_place tidied place second =
    version_stage_serves capacity shrunk start version now (g.G.Ground.outside x) (g.G.Ground.outside y) (g.G.Ground.outside z) first sets version_place tidied place second

pub returns-clause-version_crashes : goal.returns-clause-version_crashes
returns-clause-version_crashes g c capacity shrunk start version now x y z first sets version_place tidied place second =
    version_stage_crashes capacity shrunk start version now (g.G.Ground.outside x) (g.G.Ground.outside y) (g.G.Ground.outside z) first sets version_place tidied place second

pub returns-clause-half_version : goal.returns-clause-half_version
returns-clause-half_version g c capacity shrunk start version x y may sets place = mark_stage_crashes capacity shrunk start version (g.G.Ground.outside x) (g.G.Ground.outside y) may (inr (inl sets)) place
