use Rattle.nl_turns.proofs.turns.Turns.pass.Given as goal

-- the entry that is passed
abbrev pub ghosts-add : goal.ghosts-add
ghosts-add g a = record { entry = a.entry }
