-- What a map as it was found stands for.
use Rattle.oxc_sourcemap.specs.declared.finding.Found.{Found}
use Rattle.oxc_sourcemap_found.specs.FoundMaps.{FoundRecord}

-- a map as it was found
abbrev pub found_view : Found → FoundRecord
found_view f = record { map = f.map; mends = f.mends.items }
