use Rattle.file_commands.proofs.looking.look_file.Given as goal

abbrev pub ghosts-look_lent : goal.ghosts-look_lent
ghosts-look_lent g a = record { name = a.handle.disk.ghost_name }
