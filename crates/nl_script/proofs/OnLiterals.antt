-- What an answer unfolds to compute this crate's definitions on literals.
use Rattle.std.specs.Prelude.{⊤}
use Rattle.hex.proofs.OnLiterals.{hex_on_literals}
use Rattle.nl_script.specs.Words.{without_last_empty, lines_of, placed}
use Rattle.nl_script.specs.Spellings.{command_of, path_of, length_of, data_of, byte_of}
use Rattle.nl_script.specs.Grammar.{read, no_more, lone_path, rename_of, write_of, fill_of, read_of, truncate_of, call_of, worker_call, words_say, bytes_say, line_says}
use Rattle.nl_script.specs.Script.{with_read_total, lines_from, script}

unfoldable pub script_on_literals : ⊤
unfolding hex_on_literals without_last_empty lines_of placed command_of path_of length_of data_of byte_of read no_more lone_path rename_of write_of fill_of read_of truncate_of call_of worker_call words_say bytes_say line_says with_read_total lines_from script
script_on_literals = tt
