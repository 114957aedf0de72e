-- A command, as contracts see it.
use Rattle.std.specs.Prelude.{ℕ, List, map, string_bytes}
use Rattle.smap_run.specs.declared.arguments.Command.{Command}
use Rattle.smap_run.specs.declared.arguments.Command.TheVariants.{Mappings as MappingsCommand}
use Rattle.smap_run.specs.declared.arguments.Command.TheVariants.{Normalise as NormaliseCommand}
use Rattle.smap_run.specs.declared.arguments.Command.TheVariants.{Plan as PlanCommand}
use Rattle.smap_run.specs.declared.arguments.Command.TheVariants.{Trace as TraceCommand}
use Rattle.smap_run.specs.declared.arguments.Command.TheVariants.{Url as UrlCommand}

pub data Request : Type 0 where
  Mappings : (names sources : ℕ) → Request
  Normalise : Request
  Plan : (arguments : List (List ℕ)) → Request
  Trace : (line col : ℕ) → Request
  Url : Request

abbrev pub request_of : Command → Request
request_of (MappingsCommand names sources) = Mappings names sources
request_of NormaliseCommand = Normalise
request_of (PlanCommand arguments) = Plan (map string_bytes arguments.now)
request_of (TraceCommand line col) = Trace line col
request_of UrlCommand = Url
