-- Two values of the code, as definitions see them.
use Rattle.model_core.specs.declared.model.Watch.{Watch}
use Rattle.model_core.specs.EventGraph.{Watched}
use Rattle.model_core.specs.Code.Views.{watched_of}

abbrev pub both_watched : Watch × Watch → Watched × Watched
both_watched p = (watched_of p.0, watched_of p.1)
