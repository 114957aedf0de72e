use Rattle.std.proofs.Common.{sym, subst}
use Rattle.std.specs.Prelude.{IsUtf8}
use Rattle.oxc_sourcemap_c.proofs.Characters.{url_found}
use Rattle.oxc_sourcemap_c.proofs.reading.urls.url_in.Goals as goal

pub returns-in-Some-source_mapping_url : goal.returns-in-Some-source_mapping_url
returns-in-Some-source_mapping_url c =
    url_found c.args.code.now c.args.language c.in-Some.language c.in-Some-source_mapping_url.url.now (record { bytes = c.as_bytes.result }) (sym c.in-Some.ensures) (sym c.in-Some-source_mapping_url.ensures)
    (subst IsUtf8 c.as_bytes.ensures.value c.as_bytes.ensures.utf8) c.as_bytes.ensures.value
