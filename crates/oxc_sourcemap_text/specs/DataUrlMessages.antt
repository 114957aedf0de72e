-- The messages of the errors of data URLs, as bytes.
use Rattle.std.specs.Prelude.{ℕ, List, ◌++◌, codes}
use Rattle.std.specs.Fmt.{decimal}
use Rattle.oxc_sourcemap_text.specs.declared.url.data_url_error.DataUrlError.{DataUrlError}
use Rattle.oxc_sourcemap_text.specs.declared.url.data_url_error.DataUrlError.TheVariants.{BadBase64}
use Rattle.oxc_sourcemap_text.specs.declared.url.data_url_error.DataUrlError.TheVariants.{BadUtf8}
use Rattle.oxc_sourcemap_text.specs.declared.url.data_url_error.DataUrlError.TheVariants.{OutOfMemory}

abbrev pub data_url_error_text : DataUrlError → List ℕ
data_url_error_text (BadBase64 at) = codes "The data URL has bad base64 at byte " ++ decimal at ++ codes " of its data"
data_url_error_text (BadUtf8 at) = codes "The data URL has bad UTF-8 at byte " ++ decimal at ++ codes " of its text"
data_url_error_text OutOfMemory = codes "Out of memory"
