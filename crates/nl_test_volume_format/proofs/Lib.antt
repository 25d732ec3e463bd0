mod FilledLists
