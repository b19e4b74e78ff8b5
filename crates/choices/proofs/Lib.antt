mod Searched
