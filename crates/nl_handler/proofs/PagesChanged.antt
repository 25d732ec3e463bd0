-- What a call does to the pages in memory.
use Rattle.nl_iface.specs.declared.counts.Counts.{Ghosts}
use Rattle.nl_meta.proofs.PageProofs.{loaded}
use Rattle.nl_meta_running.proofs.Kept.{loads-on}
use Rattle.nl_handler.specs.Laws.{HandlerChangesPages}
use Rattle.nl_handler.specs.declared.answer.Handled.TheVariants as handled

pub handler_changes_pages : {D : Type 0} (g : Ghosts D) → HandlerChangesPages g
handler_changes_pages g s p t q tag stamp name handled.Renamed h = h.pages
handler_changes_pages g s p t q tag stamp name handled.Gone h = loaded p q (loads-on g s p t q h.1)
handler_changes_pages g s p t q tag stamp name handled.NoRoom h = loaded p q (loads-on g s p t q h.1)
handler_changes_pages g s p t q tag stamp name handled.Fault h = loaded p q (loads-on g s p t q h)
handler_changes_pages g s p t q tag stamp name (handled.Lost w f) h = loaded p q (loads-on g s p t q h)
