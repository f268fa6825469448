use Rattle.file_commands.proofs.running.run_file.Given as goal

abbrev pub ghosts-run_lent : goal.ghosts-run_lent
ghosts-run_lent g a = record { name = a.handle.disk.ghost_name }
